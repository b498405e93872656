use Rattle.std.proofs.Common.{[], ◌∷◌, refl, ap, ◌∙◌}
use Rattle.libfunc_meaning.specs.Answers.{gives, of_two}
use Rattle.libfunc_meaning.proofs.Shapes.{two_are, finish}
use Rattle.libfunc_meaning.proofs.control.stored.Goals as goal

pub take_last-value-requires : goal.take_last-value-requires
take_last-value-requires c =
    let s = two_are c.requires.0 c.requires.1 _ c.requires.2 in
    (s.v ∷ [], s.u, s.is)

pub returns : goal.returns
returns c =
    let s = two_are c.requires.0 c.requires.1 _ c.requires.2 in
    let t = c.take_last-value.ensures (s.v ∷ []) s.u s.is in
    finish (λ vs. of_two vs (λ local v. gives (v ∷ []))) _ (s.v ∷ s.u ∷ []) 0 (s.u ∷ []) _ s.is refl (c.in_ok-behind.ensures ∙ ap (λ v. v ∷ []) t.1)
