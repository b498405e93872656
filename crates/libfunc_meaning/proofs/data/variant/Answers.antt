use Rattle.std.proofs.Common.{[], ◌∷◌, refl, ap, ◌∙◌}
use Rattle.value_trees.specs.Val as val
use Rattle.libfunc_meaning.specs.Answers.{gives, of_one}
use Rattle.libfunc_meaning.proofs.Shapes.{one_is, finish}
use Rattle.libfunc_meaning.proofs.data.variant.Goals as goal

pub returns : goal.returns
returns c =
    let s = one_is c.requires.0 _ c.requires.1 in
    let t = c.take_last-payload.ensures [] s.v s.is in
    finish (λ vs. of_one vs (λ v. gives (val.enum c.args.index v ∷ []))) _ (s.v ∷ []) 0 (val.enum c.args.index s.v ∷ []) _ s.is refl
    (c.in_ok-behind.ensures ∙ ap (λ v. v ∷ []) (c.in_ok-made.ensures ∙ ap (λ v. val.enum c.args.index v) t.1))
