-- What is read of the text of a value that has the form of its type, with arrays as short as an input's: the value, or a number in it is out
-- of range.
use Rattle.std.proofs.Common.{◌≡◌, ℕ, zero, suc, ◌<◌, inl, inr, ◌++◌, List, [], ◌∷◌, Bool, true, false, cond, nat_lt, Some, Ok, Err, refl, sym, ap, ◌∙◌, subst, arith}
use Rattle.std.specs.List.{AllByRecursion, flat_map}
use Rattle.byte_reading.specs.Decimal.{decimal_text, StartsWithNoDigit}
use Rattle.text_reading.specs.Reading.{Answer.answers, done, ◌>>=◌}
use Rattle.type_trees.specs.Ty.{Ty, Tys, number, nonzero, range_check, gas_builtin, box, array, snapshot, struct, enum, dict, dict_entry, squashed_dict, uninitialized, no_types, types, holds_array, any_holds_array}
use Rattle.value_trees.specs.Of.{bound}
use Rattle.value_trees.specs.Val.{Plain, values, vals_of}
use Rattle.value_trees.specs.Val as val
use Rattle.typed_values.specs.Faults.{HasForm, HaveForms, HasVariantForm, AllFormed, few_elements, HasFlatArrays, HaveFlatArrays}
use Rattle.typed_values.specs.Inputs.{most_elements, line_of}
use Rattle.typed_values.specs.Listing.{next_text, left_text}
use Rattle.typed_values.specs.Marks.{ValueReader, byte_at, below, number_at, comma_at, separator_at, count}
use Rattle.typed_values.specs.Reading.{member_at, value_at, members_at, variant_at, line_at, lines_at}
use Rattle.typed_values.specs.Skimming.{skim_at}
use Rattle.typed_values.specs.Texts.{value_text, values_text}
use Rattle.typed_values.specs.declared.fault.ValueLimit.TheVariants as limits
use Rattle.typed_values.proofs.ArrayForms.{IsFew, few_then, IsFewRead, whole_few}
use Rattle.typed_values.proofs.FormsRead.{text_opens}
use Rattle.typed_values.proofs.InputTexts.{line_text, no_digit_here}
use Rattle.typed_values.proofs.Leading.{number_sound}
use Rattle.typed_values.proofs.NoArrays.{neither, skim_never}
use Rattle.typed_values.proofs.Numbers.{leading_number}
use Rattle.typed_values.proofs.ReadBoth.{then_byte, byte_complete}
use Rattle.typed_values.proofs.SkimForms.{skim_complete, skim_sound}
use Rattle.typed_values.proofs.TextForms.{struct_text, enum_text, member_text, left_follow}
use Rattle.typed_values.proofs.ValuesComplete.{no_digit_below, no_digit_above, left_nil, starts}

number_few : (limit n : ℕ) (rest : List ℕ) → StartsWithNoDigit rest → IsFew n rest (number_at limit (decimal_text n ++ rest))
unfolding number_at
number_few limit n rest free =
    subst (IsFew n rest) (sym (ap (λ o. below limit o (decimal_text n ++ rest)) (leading_number (decimal_text n ++ rest) n rest (starts n rest free)))) (tested (nat_lt n limit))
  where
    tested : (t : Bool) → IsFew n rest (cond t (answers (Ok n) rest) (answers (Err (Some limits.OutOfRange)) (decimal_text n ++ rest)))
    tested true = inl refl
    tested false = inr (decimal_text n ++ rest, refl)

member_few : (item : ValueReader Plain) (P : Plain → Type 0) → IsFewRead P item → (is_first : Bool) (v : Plain) (rest : List ℕ) → P v → StartsWithNoDigit rest
    → IsFew v rest (member_at is_first item (next_text is_first v ++ rest))
unfolding member_at separator_at
member_few item P few true v rest given free = few v rest given free
member_few item P few false v rest given free =
    few_then comma_at (λ _. item) (44 ∷ (32 ∷ (value_text v ++ rest))) (value_text v ++ rest) rest tt v
    (inl (then_byte 44 (byte_at 32) (32 ∷ (value_text v ++ rest)) ∙ byte_complete 32 (value_text v ++ rest)))
    (λ _. few v rest given free)

-- where there is no array, each is flat
mutual
  pub none_flat : (ty : Ty) → holds_array ty ≡ false → HasFlatArrays ty
  none_flat (number k) none = tt
  none_flat (array ty) none = absurd cc
  none_flat (struct name tys) none = nones_flat tys none
  none_flat (enum name tys) none = nones_flat tys none
  none_flat (nonzero k) none = tt
  none_flat range_check none = tt
  none_flat gas_builtin none = tt
  none_flat (box ty) none = tt
  none_flat (snapshot ty) none = tt
  none_flat (dict k) none = tt
  none_flat (dict_entry k) none = tt
  none_flat (squashed_dict k) none = tt
  none_flat (uninitialized ty) none = tt

  nones_flat : (tys : Tys) → any_holds_array tys ≡ false → HaveFlatArrays tys
  nones_flat no_types none = tt
  nones_flat (types ty tys) none = (none_flat ty (neither (holds_array ty) (any_holds_array tys) none).0, nones_flat tys (neither (holds_array ty) (any_holds_array tys) none).1)

abbrev pub FewForm : Ty → Plain → Type 0
FewForm = HasForm few_elements ⊥

mutual
  unfolding value_at members_at variant_at

  pub value_few : (ty : Ty) → HasFlatArrays ty → IsFewRead (FewForm ty) (value_at most_elements ty)
  value_few (number k) flat v rest formed free =
      subst (λ w. IsFew w rest (value_at most_elements (number k) (value_text w ++ rest))) (sym formed.1)
      (few_then (number_at (bound k)) (λ n. done (val.number k n)) (decimal_text formed.0 ++ rest) rest rest formed.0 (val.number k formed.0) (number_few (bound k) formed.0 rest free) (λ _. inl refl))
  value_few (array ty) flat v rest formed free =
      subst (λ w. IsFew w rest (value_at most_elements (array ty) (value_text w ++ rest))) (sym formed.1)
      (whole_few (skim_at most_elements ty) (FewForm ty) (skim_complete few_elements most_elements ty flat.0) (skim_sound few_elements most_elements ty flat.0) (skim_never most_elements ty flat.0)
      (text_opens few_elements ⊥ ty) (value_at most_elements ty) (value_few ty (none_flat ty flat.0)) (most_elements ty) formed.0 rest formed.2 formed.3)
  value_few (struct name tys) flat v rest formed free =
      subst (λ w. IsFew w rest (value_at most_elements (struct name tys) (value_text w ++ rest))) (sym formed.1)
      (subst (λ (t : List ℕ). IsFew (val.struct (vals_of formed.0)) rest (value_at most_elements (struct name tys) t)) (sym (struct_text (vals_of formed.0) rest))
      (few_then (byte_at 40) (λ _. members_at most_elements true tys >>= λ vs. byte_at 41 >>= λ _. done (val.struct vs)) (40 ∷ (values_text (vals_of formed.0) ++ (41 ∷ rest)))
      (values_text (vals_of formed.0) ++ (41 ∷ rest)) rest tt (val.struct (vals_of formed.0)) (inl (byte_complete 40 (values_text (vals_of formed.0) ++ (41 ∷ rest))))
      (λ _.
      few_then (members_at most_elements true tys) (λ vs. byte_at 41 >>= λ _. done (val.struct vs)) (values_text (vals_of formed.0) ++ (41 ∷ rest)) (41 ∷ rest) rest (vals_of formed.0) (val.struct (vals_of formed.0))
      (members_few true tys flat formed.0 (41 ∷ rest) formed.2 (no_digit_below 41 rest (omega arith)))
      (λ _. inl (then_byte 41 (done (val.struct (vals_of formed.0))) rest)))))
  value_few (enum name tys) flat v rest formed free =
      subst (λ w. IsFew w rest (value_at most_elements (enum name tys) (value_text w ++ rest))) (sym formed.2)
      (subst (λ (t : List ℕ). IsFew (val.enum formed.0 formed.1) rest (value_at most_elements (enum name tys) t)) (sym (enum_text formed.0 formed.1 rest))
      (few_then (number_at (count tys)) (λ index. byte_at 58 >>= λ _. variant_at most_elements tys index >>= λ w. done (val.enum index w))
      (decimal_text formed.0 ++ (58 ∷ (value_text formed.1 ++ rest))) (58 ∷ (value_text formed.1 ++ rest)) rest formed.0 (val.enum formed.0 formed.1)
      (number_few (count tys) formed.0 (58 ∷ (value_text formed.1 ++ rest)) (no_digit_above 58 (value_text formed.1 ++ rest) (omega arith)))
      (λ read.
      few_then (byte_at 58) (λ _. variant_at most_elements tys formed.0 >>= λ w. done (val.enum formed.0 w)) (58 ∷ (value_text formed.1 ++ rest)) (value_text formed.1 ++ rest) rest tt (val.enum formed.0 formed.1)
      (inl (byte_complete 58 (value_text formed.1 ++ rest)))
      (λ _.
      few_then (variant_at most_elements tys formed.0) (λ w. done (val.enum formed.0 w)) (value_text formed.1 ++ rest) rest rest formed.1 (val.enum formed.0 formed.1)
      (variant_few tys flat formed.0 formed.1 rest formed.3
      (number_sound (count tys) formed.0 (decimal_text formed.0 ++ (58 ∷ (value_text formed.1 ++ rest))) (58 ∷ (value_text formed.1 ++ rest)) read).0 free)
      (λ _. inl refl)))))
  value_few (nonzero k) flat v rest formed free = absurd formed
  value_few range_check flat v rest formed free = absurd formed
  value_few gas_builtin flat v rest formed free = absurd formed
  value_few (box ty) flat v rest formed free = absurd formed
  value_few (snapshot ty) flat v rest formed free = absurd formed
  value_few (dict k) flat v rest formed free = absurd formed
  value_few (dict_entry k) flat v rest formed free = absurd formed
  value_few (squashed_dict k) flat v rest formed free = absurd formed
  value_few (uninitialized ty) flat v rest formed free = absurd formed

  members_few : (is_first : Bool) (tys : Tys) → HaveFlatArrays tys → (vs : List Plain) (rest : List ℕ) → HaveForms few_elements ⊥ tys vs → StartsWithNoDigit rest
      → IsFew (vals_of vs) rest (members_at most_elements is_first tys (left_text is_first vs ++ rest))
  members_few is_first no_types flat vs rest formed free =
      inl (ap (λ us. members_at most_elements is_first no_types (left_text is_first us ++ rest)) formed ∙ ap (members_at most_elements is_first no_types) (left_nil is_first rest) ∙ ap (λ us. answers (Ok (vals_of us)) rest) (sym formed))
  members_few is_first (types ty tys) flat vs rest formed free =
      subst (λ us. IsFew (vals_of us) rest (members_at most_elements is_first (types ty tys) (left_text is_first us ++ rest))) (sym formed.2)
      (subst (λ (t : List ℕ). IsFew (vals_of (formed.0 ∷ formed.1)) rest (members_at most_elements is_first (types ty tys) t)) (sym (member_text is_first formed.0 formed.1 rest))
      (few_then (member_at is_first (value_at most_elements ty)) (λ v. members_at most_elements false tys >>= λ us. done (values v us))
      (next_text is_first formed.0 ++ (left_text false formed.1 ++ rest)) (left_text false formed.1 ++ rest) rest formed.0 (vals_of (formed.0 ∷ formed.1))
      (member_few (value_at most_elements ty) (HasForm few_elements ⊥ ty) (value_few ty flat.0) is_first formed.0 (left_text false formed.1 ++ rest) formed.3 (left_follow formed.1 rest free))
      (λ _.
      few_then (members_at most_elements false tys) (λ us. done (values formed.0 us)) (left_text false formed.1 ++ rest) rest rest (vals_of formed.1) (vals_of (formed.0 ∷ formed.1))
      (members_few false tys flat.1 formed.1 rest formed.4 free) (λ _. inl refl))))

  variant_few : (tys : Tys) → HaveFlatArrays tys → (index : ℕ) (v : Plain) (rest : List ℕ) → HasVariantForm few_elements ⊥ tys index v → index < count tys → StartsWithNoDigit rest
      → IsFew v rest (variant_at most_elements tys index (value_text v ++ rest))
  variant_few no_types flat index v rest formed below free = absurd (omega arith)
  variant_few (types ty tys) flat zero v rest formed below free = value_few ty flat.0 v rest formed free
  variant_few (types ty tys) flat (suc index) v rest formed below free = variant_few tys flat.1 index v rest formed (omega arith) free

pub lines_few : (tys : List Ty) → AllByRecursion HasFlatArrays tys → (vs : List Plain) → AllFormed few_elements ⊥ tys vs → IsFew vs [] (lines_at most_elements tys (flat_map line_of vs))
unfolding lines_at line_at
lines_few [] flat vs all = inl (ap (λ us. lines_at most_elements [] (flat_map line_of us)) all ∙ ap (λ us. answers (Ok us) []) (sym all))
lines_few (ty ∷ tys) flat vs all =
    subst (λ us. IsFew us [] (lines_at most_elements (ty ∷ tys) (flat_map line_of us))) (sym all.2)
    (subst (λ (t : List ℕ). IsFew (all.0 ∷ all.1) [] (lines_at most_elements (ty ∷ tys) t)) (sym (line_text all.0 (flat_map line_of all.1)))
    (few_then (line_at most_elements ty) (λ v. lines_at most_elements tys >>= λ us. done (v ∷ us)) (value_text all.0 ++ (10 ∷ flat_map line_of all.1)) (flat_map line_of all.1) [] all.0 (all.0 ∷ all.1)
    (few_then (value_at most_elements ty) (λ v. byte_at 10 >>= λ _. done v) (value_text all.0 ++ (10 ∷ flat_map line_of all.1)) (10 ∷ flat_map line_of all.1) (flat_map line_of all.1) all.0 all.0
    (value_few ty flat.0 all.0 (10 ∷ flat_map line_of all.1) all.3 (no_digit_here (flat_map line_of all.1)))
    (λ _. inl (then_byte 10 (done all.0) (flat_map line_of all.1))))
    (λ _.
    few_then (lines_at most_elements tys) (λ us. done (all.0 ∷ us)) (flat_map line_of all.1) [] [] all.1 (all.0 ∷ all.1) (lines_few tys flat.1 all.1 all.4) (λ _. inl refl))))
