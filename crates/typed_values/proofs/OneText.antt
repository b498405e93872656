-- Two values of one plain type with one text are equal.
use Rattle.std.proofs.Common.{◌≡◌, ℕ, zero, suc, ◌≤◌, ◌++◌, max, List, [], ◌∷◌, length, Bool, true, false, not, ◌&&◌, Result, Ok, Err, refl, sym, ap, ◌∙◌, subst, arith}
use Rattle.std.proofs.lemmas.Bool.{and_parts}
use Rattle.std.specs.List.{AllByRecursion}
use Rattle.text_reading.specs.Reading.{Answer, Answer.answers}
use Rattle.type_trees.specs.Ty.{Ty, Tys, number, nonzero, range_check, gas_builtin, box, array, snapshot, struct, enum, dict, dict_entry, squashed_dict, uninitialized, no_types, types, is_plain, all_plain, holds_array}
use Rattle.value_trees.specs.Of.{AreWords, IsOpenMap, IsOf, AreOf, IsOfVariant, IsPlain}
use Rattle.value_trees.specs.Val.{Plain}
use Rattle.typed_values.specs.Inputs.{IsGiven, AreGiven, IsGivenVariant, InputView, FitsMain, input_text}
use Rattle.typed_values.specs.Reading.{value_at, input_at}
use Rattle.typed_values.specs.Texts.{value_text}
use Rattle.typed_values.specs.declared.fault.InputFault.{InputFault}
use Rattle.typed_values.proofs.InputTexts.{input_complete}
use Rattle.typed_values.proofs.ValuesComplete.{value_complete}

-- the same limit for arrays of all types
abbrev all : ℕ → Ty → ℕ
all most ty = most

-- what holds from some limit on
abbrev FromOn : (ℕ → Type 0) → Type 0
FromOn P = (least : ℕ) × ((most : ℕ) → least ≤ most → P most)

from_both : (P Q : ℕ → Type 0) → FromOn P → FromOn Q → FromOn (λ most. P most × Q most)
from_both P Q p q = (max p.0 q.0, λ most enough. (p.1 most (omega arith), q.1 most (omega arith)))

elements_given : (ty : Ty) → ((v : Plain) → IsPlain ty v → FromOn (λ most. IsGiven (all most) ty v)) → (vs : List Plain) → AllByRecursion (IsPlain ty) vs
    → FromOn (λ most. AllByRecursion (IsGiven (all most) ty) vs)
elements_given ty given [] are = (0, λ most enough. tt)
elements_given ty given (v ∷ vs) are =
    from_both (λ most. IsGiven (all most) ty v) (λ most. AllByRecursion (IsGiven (all most) ty) vs) (given v are.0) (elements_given ty given vs are.1)

mutual
  value_given : (ty : Ty) → is_plain ty ≡ true → (v : Plain) → IsPlain ty v → FromOn (λ most. IsGiven (all most) ty v)
  value_given (number k) plain v is = (0, λ most enough. is)
  value_given (array ty) plain v is =
      let elements = elements_given ty (value_given ty (and_parts (is_plain ty) (not (holds_array ty)) plain).0) is.0 is.2 in
      (max (length is.0) elements.0, λ most enough. (is.0, is.1, elements.1 most (omega arith), omega arith))
  value_given (struct name tys) plain v is =
      let members = members_given tys plain is.0 is.2 in
      (members.0, λ most enough. (is.0, is.1, members.1 most enough))
  value_given (enum name tys) plain v is =
      let payload = variant_given tys plain is.0 is.1 is.3 in
      (payload.0, λ most enough. (is.0, is.1, is.2, payload.1 most enough))
  value_given (nonzero k) plain v is = let never : ⊥ = cc in absurd never
  value_given range_check plain v is = let never : ⊥ = cc in absurd never
  value_given gas_builtin plain v is = let never : ⊥ = cc in absurd never
  value_given (box ty) plain v is = let never : ⊥ = cc in absurd never
  value_given (snapshot ty) plain v is = let never : ⊥ = cc in absurd never
  value_given (dict k) plain v is = let never : ⊥ = cc in absurd never
  value_given (dict_entry k) plain v is = let never : ⊥ = cc in absurd never
  value_given (squashed_dict k) plain v is = let never : ⊥ = cc in absurd never
  value_given (uninitialized ty) plain v is = let never : ⊥ = cc in absurd never

  members_given : (tys : Tys) → all_plain tys ≡ true → (vs : List Plain) → AreOf AreWords IsOpenMap tys vs → FromOn (λ most. AreGiven (all most) tys vs)
  members_given no_types plain vs are = (0, λ most enough. are)
  members_given (types ty tys) plain vs are =
      let one = value_given ty (and_parts (is_plain ty) (all_plain tys) plain).0 are.0 are.3 in
      let others = members_given tys (and_parts (is_plain ty) (all_plain tys) plain).1 are.1 are.4 in
      (max one.0 others.0, λ most enough. (are.0, are.1, are.2, one.1 most (omega arith), others.1 most (omega arith)))

  variant_given : (tys : Tys) → all_plain tys ≡ true → (index : ℕ) (v : Plain) → IsOfVariant AreWords IsOpenMap tys index v → FromOn (λ most. IsGivenVariant (all most) tys index v)
  variant_given no_types plain index v is = absurd is
  variant_given (types ty tys) plain zero v is = value_given ty (and_parts (is_plain ty) (all_plain tys) plain).0 v is
  variant_given (types ty tys) plain (suc index) v is = variant_given tys (and_parts (is_plain ty) (all_plain tys) plain).1 index v is

pub one_text : (ty : Ty) (v w : Plain) → is_plain ty ≡ true → IsPlain ty v → IsPlain ty w → value_text v ≡ value_text w → v ≡ w
one_text ty v w plain v_is w_is same =
    let first = value_given ty plain v v_is in
    let second = value_given ty plain w w_is in
    go (max first.0 second.0) (first.1 (max first.0 second.0) (omega arith)) (second.1 (max first.0 second.0) (omega arith))
  where
    go : (most : ℕ) → IsGiven (all most) ty v → IsGiven (all most) ty w → v ≡ w
    go most v_given w_given =
        let read : value_at (all most) ty (value_text v ++ []) ≡ answers (Ok v) [] = value_complete (all most) ty v [] v_given tt in
        let other : value_at (all most) ty (value_text w ++ []) ≡ answers (Ok w) [] = value_complete (all most) ty w [] w_given tt in
        cc

pub one_input : (tys : List Ty) (i j : InputView) → FitsMain tys i → FitsMain tys j → input_text i ≡ input_text j → i ≡ j
one_input tys i j i_fits j_fits same =
    let read : input_at tys (input_text i) ≡ Ok i = input_complete tys i i_fits in
    let other : input_at tys (input_text j) ≡ Ok j = input_complete tys j j_fits in
    go (sym read ∙ ap (input_at tys) same ∙ other)
  where
    go : ◌≡◌ {A = Result InputView InputFault} (Ok i) (Ok j) → i ≡ j
    go is = cc
