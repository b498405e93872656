use Rattle.std.proofs.Common.{[], ◌∷◌, ◌++◌, map, refl, ap, ◌∙◌}
use Rattle.type_trees.specs.Ty.{array}
use Rattle.libfunc_registry.specs.Arrays.{array_append}
use Rattle.value_trees.specs.Meant.{meant}
use Rattle.value_trees.specs.Parts.{elements_of}
use Rattle.value_trees.specs.Val.{Plain, vals_of, list_of}
use Rattle.value_trees.specs.Val as val
use Rattle.libfunc_meaning.specs.Arrays.{arrays_does, array_of}
use Rattle.libfunc_meaning.proofs.Shapes.{two_are, finish, mapped_known, mapped_same}
use Rattle.libfunc_meaning.proofs.arrays.array_append.Goals as goal

pub take_last-last-requires : goal.take_last-last-requires
take_last-last-requires c =
    let s = two_are (array c.requires.0) c.requires.0 _ c.requires.1 in
    (s.v ∷ [], s.u, s.is)

pub take_last-requires : goal.take_last-requires
take_last-requires c =
    let s = two_are (array c.requires.0) c.requires.0 _ c.requires.1 in
    let t = c.take_last-last.ensures (s.v ∷ []) s.u s.is in
    ([], s.v, t.0)

pub unwrap-elements-requires : goal.unwrap-elements-requires
unwrap-elements-requires c =
    let s = two_are (array c.requires.0) c.requires.0 _ c.requires.1 in
    let t = c.take_last-last.ensures (s.v ∷ []) s.u s.is in
    let r = c.take_last.ensures [] s.v t.0 in
    mapped_known (λ vs. map meant vs.items) c.in_ok-into_elements.field-0 (list_of (vals_of s.first.0)) (c.in_ok-into_elements.ensures ∙ ap elements_of (r.1 ∙ s.first.1))

pub returns : goal.returns
returns c ty =
    let s = two_are (array c.requires.0) c.requires.0 _ c.requires.1 in
    let t = c.take_last-last.ensures (s.v ∷ []) s.u s.is in
    let r = c.take_last.ensures [] s.v t.0 in
    let same = mapped_same (λ vs. map meant vs.items) c.in_ok-into_elements.field-0 c.unwrap-elements.result (list_of (vals_of s.first.0)) (c.in_ok-into_elements.ensures ∙ ap elements_of (r.1 ∙ s.first.1)) c.unwrap-elements.ensures in
    finish (arrays_does (array_append ty)) _ (val.array (vals_of s.first.0) ∷ s.u ∷ []) 0 (array_of (list_of (vals_of s.first.0) ++ s.u ∷ []) ∷ []) _
    (s.is ∙ ap (λ v. v ∷ s.u ∷ []) s.first.1) refl
    (c.in_ok-behind.ensures ∙ ap (λ v. v ∷ []) (c.in_ok-made.ensures ∙ ap (λ us. array_of us)
    (c.in_ok-append.ensures ∙ ap (λ us. us ++ meant c.take_last-last.result ∷ []) same ∙ ap (λ v. list_of (vals_of s.first.0) ++ v ∷ []) t.1)))
