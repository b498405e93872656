use Rattle.std.proofs.Common.{[], ◌∷◌, refl, ap, ◌∙◌}
use Rattle.value_trees.specs.Val as val
use Rattle.libfunc_meaning.specs.Answers.{gives, of_one}
use Rattle.libfunc_meaning.proofs.Shapes.{one_is, finish}
use Rattle.libfunc_meaning.proofs.data.boxed.Goals as goal

pub returns : goal.returns
returns c =
    let s = one_is c.requires.0 _ c.requires.1 in
    let t = c.take_last.ensures [] s.v s.is in
    finish (λ vs. of_one vs (λ v. gives (val.boxed v ∷ []))) _ (s.v ∷ []) 0 (val.boxed s.v ∷ []) _ s.is refl
    (c.in_ok-behind.ensures ∙ ap (λ v. v ∷ []) (c.in_ok-made.ensures ∙ ap (λ v. val.boxed v) t.1))
