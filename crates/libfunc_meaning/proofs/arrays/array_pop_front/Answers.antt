use Rattle.std.proofs.Common.{[], ◌∷◌, map, sym, ap, ◌∙◌}
use Rattle.type_trees.specs.Ty.{array}
use Rattle.libfunc_registry.specs.Arrays.{array_pop_front}
use Rattle.value_trees.specs.Meant.{meant}
use Rattle.value_trees.specs.Parts.{elements_of}
use Rattle.value_trees.specs.Val.{Plain, vals_of, list_of}
use Rattle.value_trees.specs.Val as val
use Rattle.libfunc_meaning.specs.Arrays.{arrays_does, array_of, popped}
use Rattle.libfunc_meaning.proofs.Shapes.{one_is, finish, mapped_known, mapped_same, behind_one}
use Rattle.libfunc_meaning.proofs.arrays.array_pop_front.Goals as goal

pub unwrap-elements-requires : goal.unwrap-elements-requires
unwrap-elements-requires c =
    let s = one_is (array c.requires.0) _ c.requires.1 in
    let t = c.take_last.ensures [] s.v s.is in
    mapped_known (λ vs. map meant vs.items) c.in_ok-into_elements.field-0 (list_of (vals_of s.typed.0)) (c.in_ok-into_elements.ensures ∙ ap elements_of (t.1 ∙ s.typed.1))

pub returns-in_ok-behind-in-Some : goal.returns-in_ok-behind-in-Some
returns-in_ok-behind-in-Some c ty =
    let s = one_is (array c.requires.0) _ c.requires.1 in
    let t = c.take_last.ensures [] s.v s.is in
    let same = mapped_same (λ vs. map meant vs.items) c.in_ok-into_elements.field-0 c.unwrap-elements.result (list_of (vals_of s.typed.0)) (c.in_ok-into_elements.ensures ∙ ap elements_of (t.1 ∙ s.typed.1)) c.unwrap-elements.ensures in
    let pop = rw c.in-Some.is at c.pop_first-first.ensures in
    let two = behind_one _ _ _ _ c.in_ok-behind-in-Some.ensures c.in_ok-values.ensures in
    finish (arrays_does (array_pop_front ty)) _ (val.array (vals_of s.typed.0) ∷ []) 0
    (array_of (map meant c.pop_first-first.new.elements.items) ∷ val.boxed (meant c.in-Some.first) ∷ []) _
    (s.is ∙ ap (λ v. v ∷ []) s.typed.1) (ap popped (sym same ∙ pop))
    (two ∙ ap (λ v. v ∷ meant c.in_ok-in_box-in-Some.field-0 ∷ []) c.in_ok-from_elements.ensures ∙ ap (λ v. array_of (map meant c.pop_first-first.new.elements.items) ∷ v ∷ []) c.in_ok-in_box-in-Some.ensures)

pub returns-in-None : goal.returns-in-None
returns-in-None c ty =
    let s = one_is (array c.requires.0) _ c.requires.1 in
    let t = c.take_last.ensures [] s.v s.is in
    let same = mapped_same (λ vs. map meant vs.items) c.in_ok-into_elements.field-0 c.unwrap-elements.result (list_of (vals_of s.typed.0)) (c.in_ok-into_elements.ensures ∙ ap elements_of (t.1 ∙ s.typed.1)) c.unwrap-elements.ensures in
    let pop = rw c.in-None.is at c.pop_first-first.ensures in
    finish (arrays_does (array_pop_front ty)) _ (val.array (vals_of s.typed.0) ∷ []) 1 (array_of [] ∷ []) _
    (s.is ∙ ap (λ v. v ∷ []) s.typed.1) (ap popped (sym same ∙ pop.0))
    (c.in_ok-values.ensures ∙ ap (λ v. v ∷ []) (c.in_ok-from_elements.ensures ∙ ap (λ us. array_of us) pop.1))
