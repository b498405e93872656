-- Arrays: there is an answer, of the types of its branch.
use Rattle.std.proofs.Common.{◌≡◌, ℕ, zero, suc, ◌<◌, ◌^◌, List, [], ◌∷◌, ◌++◌, Some, None, length, slice_get, refl, sym, subst}
use Rattle.std.specs.Option.{option_map_or}
use Rattle.std.specs.List.{AllByRecursion}
use Rattle.type_trees.specs.Ty.{Ty, range_check, box, array, snapshot, snap}
use Rattle.type_trees.specs.declared.num.Num.{Num}
use Rattle.type_trees.specs.declared.num.Num.TheVariants as nums
use Rattle.libfunc_registry.specs.Arrays.{ArraysFam, array_new, array_append, array_len, array_get, array_pop_front, arrays_takes, arrays_gives, u32}
use Rattle.value_trees.specs.Of.{AllOf, IsOf}
use Rattle.value_trees.specs.Val.{Val, vals_of, list_of}
use Rattle.value_trees.specs.Val as val
use Rattle.value_trees.proofs.Variants.{list_back}
use Rattle.libfunc_meaning.specs.Answers.{Answer, branch, gives}
use Rattle.libfunc_meaning.specs.Arrays.{arrays_does, array_of, element_at, popped}
use Rattle.libfunc_meaning.specs.Proper.{IsCountedArrays}
use Rattle.libfunc_meaning.proofs.Typed.{IsAnswered, at_none, at_one, at_two, at_three, at_number, at_array, gives_one, gives_two}
use Rattle.libfunc_meaning.proofs.DataTypes.{of_snap}

pub all_append : {X : Type 0} (P : X → Type 0) (xs : List X) (x : X) → AllByRecursion P xs → P x → AllByRecursion P (xs ++ x ∷ [])
all_append P [] x h p = (p, tt)
all_append P (y ∷ xs) x h p = (h.0, all_append P xs x h.1 p)

pub all_get : {X : Type 0} (P : X → Type 0) (xs : List X) (i : ℕ) (x : X) → AllByRecursion P xs → slice_get xs i ≡ Some x → P x
all_get P [] i x h e = let never : ⊥ = cc in absurd never
all_get P (y ∷ xs) zero x h e = let same : y ≡ x = cc in subst P same h.0
all_get P (y ∷ xs) (suc i) x h e = all_get P xs i x h.1 e

module _ {D E : Type 0} (OfDict : Num → D → Type 0) (OfEntry : Num → E → Type 0) where
  abbrev Does : ArraysFam → List (Val D E) → Type 0
  Does fam vs = IsAnswered OfDict OfEntry (arrays_gives fam) (arrays_does fam vs)

  abbrev Given : ArraysFam → Answer D E → Type 0
  Given fam answer = IsAnswered OfDict OfEntry (arrays_gives fam) answer

  abbrev Each : Ty → List (Val D E) → Type 0
  Each ty us = AllByRecursion (IsOf OfDict OfEntry ty) us

  appended : (ty : Ty) (us : List (Val D E)) (v : Val D E) → Each ty us → IsOf OfDict OfEntry ty v → Does (array_append ty) (array_of us ∷ v ∷ [])
  appended ty us v all v_is =
      subst (λ ws. Given (array_append ty) (gives (array_of (ws ++ v ∷ []) ∷ []))) (sym (list_back us))
      (gives_one OfDict OfEntry _ 0 (array ty) (array_of (us ++ v ∷ [])) refl (us ++ v ∷ [], refl, all_append (IsOf OfDict OfEntry ty) us v all v_is))

  counted : (ty : Ty) (us : List (Val D E)) → length us < 2 ^ 32 → Does (array_len ty) (array_of us ∷ [])
  counted ty us short =
      subst (λ ws. Given (array_len ty) (gives (val.number nums.U32 (length ws) ∷ []))) (sym (list_back us))
      (gives_one OfDict OfEntry _ 0 u32 (val.number nums.U32 (length us)) refl (length us, refl, short))

  got : (ty : Ty) (rc : Val D E) (us : List (Val D E)) (index : ℕ) → rc ≡ val.check → Each ty us → Given (array_get ty) (element_at rc us index)
  got ty rc us index is all =
      elim (slice_get us index) as (λ o. slice_get us index ≡ o → Given (array_get ty) (option_map_or (λ v. branch 0 (rc ∷ val.boxed v ∷ [])) o (branch 1 (rc ∷ [])))) [
        | None ↦ λ e. gives_one OfDict OfEntry _ 1 range_check rc refl is
        | Some v ↦ λ e. gives_two OfDict OfEntry _ 0 range_check (box (snap ty)) rc (val.boxed v) refl is
            (v, refl, of_snap OfDict OfEntry ty v (all_get (IsOf OfDict OfEntry ty) us index v all e))
      ] refl

  pop : (ty : Ty) (us : List (Val D E)) → Each ty us → Given (array_pop_front ty) (popped us)
  pop ty [] all = gives_one OfDict OfEntry _ 1 (array ty) (array_of []) refl ([], refl, tt)
  pop ty (v ∷ us) all = gives_two OfDict OfEntry _ 0 (array ty) (box ty) (array_of us) (val.boxed v) refl (us, refl, all.1) (v, refl, all.0)

  pub arrays_answers : (fam : ArraysFam) (vs : List (Val D E)) → IsCountedArrays fam vs → AllOf OfDict OfEntry (arrays_takes fam) vs
      → IsAnswered OfDict OfEntry (arrays_gives fam) (arrays_does fam vs)
  arrays_answers (array_new ty) vs short h =
      at_none OfDict OfEntry (Does (array_new ty)) vs h (gives_one OfDict OfEntry _ 0 (array ty) (array_of []) refl ([], refl, tt))
  arrays_answers (array_append ty) vs short h =
      at_two OfDict OfEntry (Does (array_append ty)) (array ty) ty vs h (λ a v a_is v_is.
      at_array OfDict OfEntry (λ b. Does (array_append ty) (b ∷ v ∷ [])) ty a a_is (λ us all. appended ty us v all v_is))
  arrays_answers (array_len ty) vs short h =
      at_one OfDict OfEntry (λ ws. IsCountedArrays (array_len ty) ws → Does (array_len ty) ws) (snapshot (array ty)) vs h (λ a a_is.
      at_array OfDict OfEntry (λ b. IsCountedArrays (array_len ty) (b ∷ []) → Does (array_len ty) (b ∷ [])) ty a a_is (λ us all few. counted ty us (few us refl)))
      short
  arrays_answers (array_get ty) vs short h =
      at_three OfDict OfEntry (Does (array_get ty)) range_check (snapshot (array ty)) u32 vs h (λ rc a v rc_is a_is v_is.
      at_array OfDict OfEntry (λ b. Does (array_get ty) (rc ∷ b ∷ v ∷ [])) ty a a_is (λ us all.
      at_number OfDict OfEntry (λ w. Does (array_get ty) (rc ∷ array_of us ∷ w ∷ [])) nums.U32 v v_is (λ index below.
      subst (λ ws. Given (array_get ty) (element_at rc ws index)) (sym (list_back us)) (got ty rc us index rc_is all))))
  arrays_answers (array_pop_front ty) vs short h =
      at_one OfDict OfEntry (Does (array_pop_front ty)) (array ty) vs h (λ a a_is.
      at_array OfDict OfEntry (λ b. Does (array_pop_front ty) (b ∷ [])) ty a a_is (λ us all.
      subst (λ ws. Given (array_pop_front ty) (popped ws)) (sym (list_back us)) (pop ty us all)))
