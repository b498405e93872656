-- The number at the head of bytes.
use Rattle.std.proofs.Common.{◌≡◌, ◌≢◌, ℕ, ◌<◌, ◌≤◌, ◌⊎◌, inl, inr, ◌++◌, List, [], ◌∷◌, length, drop, Bool, true, false, cond, ◌&&◌, ◌==◌, Option, Some, None, refl, sym, ap, ◌∙◌, subst, arith}
use Rattle.std.proofs.Math.Seq.{drop-append_seam}
use Rattle.std.proofs.lemmas.Bool.{cases_eq}
use Rattle.std.proofs.lemmas.Bool.Decides.{nat_tests}
use Rattle.std.proofs.lemmas.List.{nil_from_length}
use Rattle.std.proofs.lemmas.List.Sums.{take_while-cons}
use Rattle.std.proofs.lemmas.Str.Parse.{digit_from_value}
use Rattle.std.specs.Char.{IsAsciiDigit}
use Rattle.std.specs.List.{take_while}
use Rattle.std.specs.Str.Parse.{AllDigits, digits_value}
use Rattle.byte_reading.specs.Decimal.{decimal_text, StartsWithNoDigit, StartsWithNumber}
use Rattle.byte_reading.proofs.DecimalLaws.{is_decimal-decimal_text, digits_value-decimal_text, decimal_text-small}
use Rattle.text_reading.specs.Tokens.{is_digit}
use Rattle.text_reading.proofs.NumberFacts.{digit_bounds, digit_is}
use Rattle.typed_values.specs.Marks.{front_of, number_of_front, leading}

pub either : (b : Bool) → (b ≡ true) ⊎ (b ≡ false)
either true = inl refl
either false = inr refl

no_digit : (b : ℕ) → (IsAsciiDigit b → ⊥) → is_digit b ≡ false
no_digit b free = elim (either (is_digit b)) [ inl digit ↦ absurd (free (digit_bounds b digit)) | inr is ↦ is ]

pub a_digit : (b : ℕ) → IsAsciiDigit b → is_digit b ≡ true
a_digit b is = digit_is b is.0 is.1

-- digits are taken up to what is none
pub taken_digits : (ds rest : List ℕ) → AllDigits 10 ds → StartsWithNoDigit rest → take_while is_digit (ds ++ rest) ≡ ds
taken_digits [] [] all free = refl
taken_digits [] (b ∷ rest) all free = take_while-cons is_digit b rest ∙ ap (λ t. cond t (b ∷ take_while is_digit rest) []) (no_digit b free)
taken_digits (d ∷ ds) rest all free =
    take_while-cons is_digit d (ds ++ rest)
    ∙ ap (λ t. cond t (d ∷ take_while is_digit (ds ++ rest)) []) (a_digit d (digit_from_value d all.0))
    ∙ ap (λ es. d ∷ es) (taken_digits ds rest all.1 free)

pub zero_text : decimal_text 0 ≡ 48 ∷ []
zero_text = decimal_text-small 0 (omega arith)

-- what is taken of a number's text is all of it
front_is : (n : ℕ) (rest : List ℕ) → (n ≡ 0) ⊎ StartsWithNoDigit rest → front_of (decimal_text n ++ rest) ≡ decimal_text n
front_is n rest longest = go (decimal_text n) refl
  where
    go : (text : List ℕ) → decimal_text n ≡ text → front_of (text ++ rest) ≡ text
    go [] is = let some = (is_decimal-decimal_text n).digits.0 in absurd (omega (arith, ap length is))
    go (x ∷ others) is = elim (cases_eq x 48) [
      | inl zero ↦
          let leads : length (decimal_text n) ≡ 1 = (is_decimal-decimal_text n).no_leading_zero (rw is zero) in
          let short : others ≡ [] = nil_from_length others (omega (arith, ap length is)) in
          rw (zero, short) refl
      | inr other ↦
          let tail : StartsWithNoDigit rest = elim longest [
            | inl none ↦ let same : 48 ∷ [] ≡ x ∷ others = sym zero_text ∙ ap decimal_text (sym none) ∙ is in let first : 48 ≡ x = cc in absurd (other (sym first))
            | inr free ↦ free
          ] in
          let all : AllDigits 10 (x ∷ others) = subst (AllDigits 10) is (is_decimal-decimal_text n).digits.1 in
          ap (λ t. cond t (48 ∷ []) (take_while is_digit ((x ∷ others) ++ rest))) (ne_test x other) ∙ taken_digits (x ∷ others) rest all tail
    ]
      where
        ne_test : (y : ℕ) → y ≢ 48 → (y == 48) ≡ false
        ne_test y h = grind (arith, nat_tests)

number_of : (text rest : List ℕ) → 0 < length text → number_of_front text (text ++ rest) ≡ Some (digits_value 10 text, rest)
number_of [] rest some = absurd (omega arith)
number_of (d ∷ ds) rest some = ap (λ l. Some (digits_value 10 (d ∷ ds), l)) (drop-append_seam (d ∷ ds) rest)

-- the number that the bytes start with
pub leading_number : (bytes : List ℕ) (n : ℕ) (rest : List ℕ) → StartsWithNumber bytes n rest → leading bytes ≡ Some (n, rest)
unfolding leading
leading_number bytes n rest starts =
    ap (λ b. number_of_front (front_of b) b) starts.text_is
    ∙ ap (λ f. number_of_front f (decimal_text n ++ rest)) (front_is n rest starts.longest)
    ∙ number_of (decimal_text n) rest (is_decimal-decimal_text n).digits.0
    ∙ ap (λ m. Some (m, rest)) (digits_value-decimal_text n)

pub leading_none : (bytes : List ℕ) → StartsWithNoDigit bytes → leading bytes ≡ None
unfolding leading
leading_none [] free = refl
leading_none (b ∷ rest) free =
    let other : (b == 48) ≡ false = ne_zero b free in
    ap (λ t. number_of_front (cond t (48 ∷ []) (take_while is_digit (b ∷ rest))) (b ∷ rest)) other
    ∙ ap (λ f. number_of_front f (b ∷ rest)) (taken_digits [] (b ∷ rest) tt free)
  where
    ne_zero : (y : ℕ) → (IsAsciiDigit y → ⊥) → (y == 48) ≡ false
    ne_zero y h = elim (either (y == 48)) [ inl zero ↦ let is : y ≡ 48 = grind (arith, nat_tests) in absurd (h (omega arith, omega arith)) | inr is ↦ is ]

-- a number other than 0 takes all digits
pub leading_large : (bytes : List ℕ) (n : ℕ) (rest : List ℕ) → StartsWithNumber bytes n rest → 0 < n → drop (length (take_while is_digit bytes)) bytes ≡ rest
leading_large bytes n rest starts above =
    let tail : StartsWithNoDigit rest = elim starts.longest [ inl none ↦ absurd (omega arith) | inr free ↦ free ] in
    ap (λ b. drop (length (take_while is_digit b)) b) starts.text_is
    ∙ ap (λ ds. drop (length ds) (decimal_text n ++ rest)) (taken_digits (decimal_text n) rest (is_decimal-decimal_text n).digits.1 tail)
    ∙ drop-append_seam (decimal_text n) rest
