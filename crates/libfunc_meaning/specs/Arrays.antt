-- Arrays.
use Rattle.std.specs.Prelude.{ℕ, List, [], ◌∷◌, ◌++◌, length, slice_get}
use Rattle.std.specs.Option.{option_map_or}
use Rattle.type_trees.specs.declared.num.Num.TheVariants as nums
use Rattle.libfunc_registry.specs.Arrays.{ArraysFam, array_new, array_append, array_len, array_get, array_pop_front}
use Rattle.value_trees.specs.Val.{Val, vals_of}
use Rattle.value_trees.specs.Val as val
use Rattle.libfunc_meaning.specs.Answers.{Answer, branch, gives, of_none, of_one, of_two, of_three, with_number, with_elements}

module _ {D E : Type 0} where
  abbrev pub array_of : List (Val D E) → Val D E
  array_of vs = val.array (vals_of vs)

  -- the element at an index, boxed, if there is one
  abbrev pub element_at : Val D E → List (Val D E) → ℕ → Answer D E
  element_at rc vs index = option_map_or (λ v. branch 0 (rc ∷ val.boxed v ∷ [])) (slice_get vs index) (branch 1 (rc ∷ []))

  -- without its first element, and that element boxed; or the empty array as it is
  abbrev pub popped : List (Val D E) → Answer D E
  popped [] = branch 1 (array_of [] ∷ [])
  popped (v ∷ vs) = branch 0 (array_of vs ∷ val.boxed v ∷ [])

  abbrev pub arrays_does : ArraysFam → List (Val D E) → Answer D E
  arrays_does (array_new ty) vs = of_none vs (gives (array_of [] ∷ []))
  arrays_does (array_append ty) vs = of_two vs (λ a v. with_elements a (λ us. gives (array_of (us ++ v ∷ []) ∷ [])))
  arrays_does (array_len ty) vs = of_one vs (λ a. with_elements a (λ us. gives (val.number nums.U32 (length us) ∷ [])))
  arrays_does (array_get ty) vs = of_three vs (λ rc a v. with_elements a (λ us. with_number v (λ index. element_at rc us index)))
  arrays_does (array_pop_front ty) vs = of_one vs (λ a. with_elements a (λ us. popped us))
