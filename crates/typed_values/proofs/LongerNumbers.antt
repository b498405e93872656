-- A number that begins with another's digits is no smaller.
use Rattle.std.proofs.Common.{◌≡◌, ℕ, zero, suc, ◌+◌, ◌≤◌, ◌⊎◌, inl, inr, ◌++◌, List, [], ◌∷◌, length, take, slice_index, refl, sym, ap, ◌∙◌, subst, arith}
use Rattle.std.proofs.lemmas.List.{append-nil, length-append, take_at}
use Rattle.std.proofs.lemmas.Str.Parse.{digit_from_value}
use Rattle.std.specs.Char.{IsAsciiDigit}
use Rattle.std.specs.Str.Parse.{AllDigits, digits_value}
use Rattle.byte_reading.specs.Decimal.{decimal_text, StartsWithNoDigit, StartsWithNumber}
use Rattle.byte_reading.proofs.DecimalLaws.{is_decimal-decimal_text, digits_value-decimal_text, decimal_text_injective, value_more}
use Rattle.typed_values.proofs.Numbers.{zero_text}

more_digits : (text : List ℕ) → AllDigits 10 text → (i k : ℕ) → i + k ≤ length text → digits_value 10 (take i text) ≤ digits_value 10 (take (i + k) text)
more_digits text all i zero within = omega (arith, ap (λ n. digits_value 10 (take n text)) (none i))
  where
    none : (i : ℕ) → i + 0 ≡ i
    none i = omega arith
more_digits text all i (suc k) within =
    let before = more_digits text all i k (omega arith) in
    let more = value_more text (i + k) (digits_value 10 (take (i + k) text)) all (omega arith) refl in
    omega (arith, before, more, ap (λ n. digits_value 10 (take n text)) (one i k))
  where
    one : (i k : ℕ) → i + suc k ≡ i + k + 1
    one i k = omega arith

-- digits that nothing else interrupts
is_front : (ds es rest tail : List ℕ) → AllDigits 10 ds → StartsWithNoDigit tail → ds ++ rest ≡ es ++ tail → (more : List ℕ) × (es ≡ ds ++ more)
is_front [] es rest tail all free same = (es, refl)
is_front (d ∷ ds) [] rest [] all free same = let never : ⊥ = cc in absurd never
is_front (d ∷ ds) [] rest (t ∷ tail) all free same = let head : d ≡ t = cc in absurd (free (subst IsAsciiDigit head (digit_from_value d all.0)))
is_front (d ∷ ds) (e ∷ es) rest tail all free same =
    let tails : ds ++ rest ≡ es ++ tail = cc in
    let head : d ≡ e = cc in
    let others = is_front ds es rest tail all.1 free tails in
    (others.0, ap (λ b. b ∷ es) (sym head) ∙ ap (λ (t : List ℕ). d ∷ t) others.1)

front_less : (m n : ℕ) (more : List ℕ) → decimal_text n ≡ decimal_text m ++ more → m ≤ n
front_less m n more is =
    let text = decimal_text n in
    let sizes : length text ≡ length (decimal_text m) + length more = ap length is ∙ length-append (decimal_text m) more in
    let front : take (length (decimal_text m)) text ≡ decimal_text m = take_at_front (decimal_text m) more text is in
    let whole : take (length (decimal_text m) + length more) text ≡ text = ap (λ k. take k text) (sym sizes) ∙ take_whole text in
    let less = more_digits text (is_decimal-decimal_text n).digits.1 (length (decimal_text m)) (length more) (omega (arith, sizes)) in
    omega (arith, less, ap (digits_value 10) front, ap (digits_value 10) whole, digits_value-decimal_text m, digits_value-decimal_text n)
  where
    take_at_front : (a b text : List ℕ) → text ≡ a ++ b → take (length a) text ≡ a
    take_at_front a b text is = ap (take (length a)) is ∙ take_at a b (length a) refl

    take_whole : (text : List ℕ) → take (length text) text ≡ text
    take_whole text = ap (take (length text)) (sym (append-nil text)) ∙ take_at text [] (length text) refl

zero_alone : (n : ℕ) (other left : List ℕ) → decimal_text n ++ other ≡ 48 ∷ left → n ≡ 0
zero_alone n other left same = go (decimal_text n) refl same
  where
    go : (text : List ℕ) → decimal_text n ≡ text → text ++ other ≡ 48 ∷ left → n ≡ 0
    go [] is same = let some = (is_decimal-decimal_text n).digits.0 in absurd (omega (arith, ap length is))
    go (x ∷ []) is same =
        let head : x ≡ 48 = cc in
        decimal_text_injective n 0 (is ∙ ap (λ b. b ∷ []) head ∙ sym zero_text)
    go (x ∷ y ∷ others) is same =
        let head : x ≡ 48 = cc in
        let leads : length (decimal_text n) ≡ 1 = (is_decimal-decimal_text n).no_leading_zero (ap (λ (t : List ℕ). slice_index t 0) is ∙ head) in
        absurd (omega (arith, ap length is))

-- where bytes begin with a number's text, the number that they begin with is no smaller
pub no_smaller : (m n : ℕ) (other left : List ℕ) → StartsWithNumber (decimal_text m ++ other) n left → m ≤ n
no_smaller m n other left starts = go starts.longest
  where
    go : (n ≡ 0) ⊎ StartsWithNoDigit left → m ≤ n
    go (inl none) =
        let is : m ≡ 0 = zero_alone m other left (starts.text_is ∙ ap (λ k. decimal_text k ++ left) none ∙ ap (λ (t : List ℕ). t ++ left) zero_text) in
        omega arith
    go (inr free) =
        let front = is_front (decimal_text m) (decimal_text n) other left (is_decimal-decimal_text m).digits.1 free starts.text_is in
        front_less m n front.0 front.1
