use Rattle.std.proofs.Common.{[], ◌∷◌, refl, ap, ◌∙◌}
use Rattle.type_trees.specs.Ty.{box}
use Rattle.value_trees.specs.Meant.{meant}
use Rattle.value_trees.specs.Parts.{boxed_of}
use Rattle.value_trees.specs.Val as val
use Rattle.libfunc_meaning.specs.Answers.{gives, of_one, with_boxed}
use Rattle.libfunc_meaning.proofs.Shapes.{one_is, finish, mapped_known, mapped_same}
use Rattle.libfunc_meaning.proofs.data.unboxed.Goals as goal

pub unwrap-inner-requires : goal.unwrap-inner-requires
unwrap-inner-requires c =
    let s = one_is (box c.requires.0) _ c.requires.1 in
    let t = c.take_last.ensures [] s.v s.is in
    mapped_known meant c.into_boxed.result s.typed.0 (c.into_boxed.ensures ∙ ap boxed_of (t.1 ∙ s.typed.1))

pub returns : goal.returns
returns c =
    let s = one_is (box c.requires.0) _ c.requires.1 in
    let t = c.take_last.ensures [] s.v s.is in
    let inner = mapped_same meant c.into_boxed.result c.unwrap-inner.result s.typed.0 (c.into_boxed.ensures ∙ ap boxed_of (t.1 ∙ s.typed.1)) c.unwrap-inner.ensures in
    finish (λ vs. of_one vs (λ v. with_boxed v (λ w. gives (w ∷ [])))) _ (val.boxed s.typed.0 ∷ []) 0 (s.typed.0 ∷ []) _ (s.is ∙ ap (λ v. v ∷ []) s.typed.1) refl
    (c.in_ok-behind.ensures ∙ ap (λ v. v ∷ []) inner)
