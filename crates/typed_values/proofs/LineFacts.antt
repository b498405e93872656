-- The lines of an input: no value's text has a line end, so there are as many lines as values.
use Rattle.std.proofs.Common.{◌≡◌, ℕ, suc, ◌+◌, ◌-◌, ◌≤◌, ◌<◌, ◌++◌, List, [], ◌∷◌, length, Bool, true, false, cond, ◌==◌, Option, Some, None, slice_get, codes, refl, sym, ap, ◌∙◌, subst, arith}
use Rattle.std.proofs.lemmas.Bool.Decides.{nat_tests}
use Rattle.std.proofs.lemmas.List.{append-nil, append_assoc, length-append}
use Rattle.std.proofs.lemmas.List.Sums.{sum_by-append, sum_by-cons}
use Rattle.std.specs.Char.{IsAsciiDigit}
use Rattle.std.specs.List.{AllByRecursion, count_by, flat_map}
use Rattle.byte_reading.specs.Decimal.{decimal_text}
use Rattle.byte_reading.proofs.DecimalLaws.{is_decimal-decimal_text}
use Rattle.std.specs.Str.Parse.{AllDigits}
use Rattle.std.proofs.lemmas.Str.Parse.{digit_from_value}
use Rattle.value_trees.specs.Val.{Plain, Vals, WordMap, OpenMap, no_values, values}
use Rattle.value_trees.specs.Val as val
use Rattle.typed_values.specs.Inputs.{line_of}
use Rattle.typed_values.specs.Reading.{line_count, open_line}
use Rattle.typed_values.specs.Texts.{value_text, values_text}

abbrev ends : List ℕ → ℕ
ends bytes = count_by (λ byte. byte == 10) bytes

ends_both : (front back : List ℕ) → ends (front ++ back) ≡ ends front + ends back
ends_both front back = sum_by-append (λ byte. cond (byte == 10) 1 0) front back

ends_of : (byte : ℕ) (rest : List ℕ) → (byte == 10) ≡ false → ends (byte ∷ rest) ≡ ends rest
ends_of byte rest other = sum_by-cons (λ b. cond (b == 10) 1 0) byte rest ∙ ap (λ t. cond t 1 0 + ends rest) other ∙ zero_more (ends rest)
  where
    zero_more : (n : ℕ) → 0 + n ≡ n
    zero_more n = omega arith

digit_ends : (digits : List ℕ) → AllDigits 10 digits → ends digits ≡ 0
digit_ends [] all = refl
digit_ends (d ∷ ds) all = ends_of d ds (other d (digit_from_value d all.0)) ∙ digit_ends ds all.1
  where
    other : (d : ℕ) → IsAsciiDigit d → (d == 10) ≡ false
    other d is = let from : 48 ≤ d = is.0 in grind (arith, nat_tests)

number_ends : (n : ℕ) → ends (decimal_text n) ≡ 0
number_ends n = digit_ends (decimal_text n) (is_decimal-decimal_text n).digits.1

none_in_both : (front back : List ℕ) → ends front ≡ 0 → ends back ≡ 0 → ends (front ++ back) ≡ 0
none_in_both front back none_front none_back = omega (arith, ends_both front back)

mutual
  pub value_ends : (v : Plain) → ends (value_text v) ≡ 0
  value_ends (val.number k n) = number_ends n
  value_ends (val.struct vs) = none_in_both (values_text vs) (41 ∷ []) (values_ends vs) refl
  value_ends (val.enum index payload) =
      none_in_both (decimal_text index) (58 ∷ (value_text payload ++ [])) (number_ends index) (none_in_both (value_text payload) [] (value_ends payload) refl)
  value_ends (val.array vs) = none_in_both (values_text vs) (93 ∷ []) (values_ends vs) refl
  value_ends (val.boxed v) = refl
  value_ends (val.dict m) = refl
  value_ends (val.dict_entry e) = refl
  value_ends (val.squashed_dict m) = refl
  value_ends (val.gas n) = refl
  value_ends val.check = refl
  value_ends val.empty = refl

  pub values_ends : (vs : Vals WordMap OpenMap) → ends (values_text vs) ≡ 0
  values_ends no_values = refl
  values_ends (values v no_values) = value_ends v
  values_ends (values v (values w vs)) =
      none_in_both (value_text v) (44 ∷ (32 ∷ (values_text (values w vs) ++ []))) (value_ends v) (none_in_both (values_text (values w vs)) [] (values_ends (values w vs)) refl)

lines_end : (vs : List Plain) → ends (flat_map line_of vs) ≡ length vs
lines_end [] = refl
lines_end (v ∷ vs) =
    let here : ends (line_of v) ≡ 1 = omega (arith, ends_both (value_text v) (10 ∷ []), value_ends v) in
    omega (arith, ends_both (line_of v) (flat_map line_of vs), lines_end vs)

-- the last line has its line end
last_byte : (front : List ℕ) → slice_get (front ++ (10 ∷ [])) (length (front ++ (10 ∷ [])) - 1) ≡ Some 10
last_byte front = ap (slice_get (front ++ (10 ∷ []))) (place front) ∙ go front
  where
    place : (front : List ℕ) → length (front ++ (10 ∷ [])) - 1 ≡ length front
    place front = omega (arith, length-append front (10 ∷ []))

    go : (front : List ℕ) → slice_get (front ++ (10 ∷ [])) (length front) ≡ Some 10
    go [] = refl
    go (b ∷ front) = go front

lines_closed : (v : Plain) (vs : List Plain) → (front : List ℕ) × (flat_map line_of (v ∷ vs) ≡ front ++ (10 ∷ []))
lines_closed v [] = (value_text v, append-nil (line_of v))
lines_closed v (w ∷ vs) =
    let others = lines_closed w vs in
    (line_of v ++ others.0, ap (λ t. line_of v ++ t) others.1 ∙ sym (append_assoc (line_of v) others.0 (10 ∷ [])))

pub as_many_lines : (vs : List Plain) → line_count (flat_map line_of vs) ≡ length vs
as_many_lines [] = refl
as_many_lines (v ∷ vs) =
    let text = lines_closed v vs in
    let last : open_line (slice_get (flat_map line_of (v ∷ vs)) (length (flat_map line_of (v ∷ vs)) - 1)) ≡ 0 =
    ap (λ t. open_line (slice_get t (length t - 1))) text.1 ∙ ap open_line (last_byte text.0)
    in
    omega (arith, last, lines_end (v ∷ vs))
