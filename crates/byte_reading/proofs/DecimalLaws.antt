-- The decimal texts: each number has one, and no two numbers have the same.
use Rattle.std.proofs.Common.{ℕ, zero, suc, ◌≡◌, ◌≢◌, ◌⊎◌, ◌<◌, ◌≤◌, ◌+◌, ◌*◌, ◌-◌, ◌/◌, ◌%◌, ◌^◌, List, [], ◌∷◌, ◌++◌, length, get_or, take, map, refl, sym, ◌∙◌, ap, subst, inl, inr, arith, add-one, lit≤}
use Rattle.std.specs.Prelude.{decimal}
use Rattle.std.specs.Char.{digit_value, IsAsciiDigit}
use Rattle.std.specs.Int.Digits.{digits_of, number_from_digits, AllBelowBase}
use Rattle.std.specs.List.{All, AllByRecursion}
use Rattle.std.specs.Str.Parse.{AllDigits, digits_value}
use Rattle.std.proofs.lemmas.Bool.{cases_eq, ne_eqb}
use Rattle.std.proofs.lemmas.Int.Digits.{digits_of_step, first_digits_of, all_below_base_digits_of, number_digits_of, number_more, digits_value_is, digits_value_more, all_below_base_from_digits}
use Rattle.std.proofs.lemmas.List.{take_more, map-append, nil_from_length}
use Rattle.std.proofs.lemmas.List.Elements.{All-from_get_or, recursion_from_All}
use Rattle.std.proofs.Math.Seq.{take-length}
use Rattle.std.proofs.lemmas.Fmt.{decimal_by_steps_wide}
use Rattle.std.proofs.lemmas.Str.{digit_value_digit}
use Rattle.std.proofs.lemmas.Str.Parse.{digit_from_value, digit_at}
use Rattle.std.proofs.lemmas.Grind.{get_or_default_zero}
use Rattle.byte_reading.specs.Decimal.{decimal_text, IsDecimal, IsNotDigits, StartsWithNoDigit, StartsWithNumber}
use Rattle.byte_reading.specs.declared.decimal.DecimalFault.{DecimalFault}
use Rattle.byte_reading.specs.declared.decimal.DecimalFault.TheVariants.{NotDigits, TooLarge}

-- a digit's byte has the digit's value
digit_value-glyph : (digit : ℕ) → digit < 10 → digit_value (48 + digit) ≡ digit
digit_value-glyph digit below = omega (arith, digit_value_digit (48 + digit) (omega arith))

-- the text of digits is a text of digits
all_digits-map : (digits : List ℕ) → AllBelowBase 10 digits → AllDigits 10 (map (λ d. 48 + d) digits)
all_digits-map [] all = tt
all_digits-map (d ∷ rest) all = (omega (arith, digit_value-glyph d all.0), all_digits-map rest all.1)

-- the digits of the text of digits
values-map : (digits : List ℕ) → AllBelowBase 10 digits → map digit_value (map (λ d. 48 + d) digits) ≡ digits
values-map [] all = refl
values-map (d ∷ rest) all = let same = digit_value-glyph d all.0 in let others = values-map rest all.1 in cc

-- the text of the digits of a text
texts-map : (text : List ℕ) → AllDigits 10 text → map (λ d. 48 + d) (map digit_value text) ≡ text
texts-map [] all = refl
texts-map (c ∷ rest) all =
    let same : 48 + digit_value c ≡ c = omega (arith, digit_value_digit c (digit_from_value c all.0)) in
    let others = texts-map rest all.1 in cc

-- one more digit behind the digits of a number
digits_of-push : (m d : ℕ) → d < 10 → 0 < m * 10 + d → digits_of 10 (m * 10 + d) ≡ digits_of 10 m ++ (d ∷ [])
digits_of-push m d below above =
    let front : (m * 10 + d) / 10 ≡ m = omega arith in
    let last : (m * 10 + d) % 10 ≡ d = omega arith in
    digits_of_step 10 (m * 10 + d) (lit≤ tt) above ∙ rw (front, last) refl

-- each digit is below the base
digit_below : (digits : List ℕ) → AllBelowBase 10 digits → (i : ℕ) → i < length digits → get_or digits i 0 < 10
digit_below [] all i within = absurd (omega arith)
digit_below (d ∷ rest) all zero within = all.0
digit_below (d ∷ rest) all (suc i) within = digit_below rest all.1 i (omega arith)

-- the first i digits are the digits of the number that they write
record IsOwnDigits (digits : List ℕ) (i : ℕ) : Type 0 where
  own : digits_of 10 (number_from_digits 10 (take i digits)) ≡ take i digits
  above : 0 < i → 0 < number_from_digits 10 (take i digits)

own_digits_more : (digits : List ℕ) (i : ℕ) → get_or digits i 0 < 10 → 0 < get_or digits 0 0 → i < length digits →
    IsOwnDigits digits i → IsOwnDigits digits (i + 1)
own_digits_more digits i low first within before =
    let value = number_more 10 digits i within in
    let longer = take_more digits i 0 within in
    let above : 0 < number_from_digits 10 (take i digits) * 10 + get_or digits i 0 =
    elim (cases_eq i 0) [ inl none ↦ rw none (omega arith) | inr some ↦ omega (arith, before.above (omega arith)) ] in
    let pushed = digits_of-push (number_from_digits 10 (take i digits)) (get_or digits i 0) low above in
    let own = before.own in
    record { own = cc; above = λ _. rw value above }

own_digits : (digits : List ℕ) → AllBelowBase 10 digits → 0 < get_or digits 0 0 → (i : ℕ) → i ≤ length digits →
    IsOwnDigits digits i
own_digits digits all first zero within = record { own = refl; above = λ h. absurd (omega arith) }
own_digits digits all first (suc i) within =
    let before = own_digits digits all first i (omega arith) in
    rw (← add-one) (own_digits_more digits i (digit_below digits all i within) first within before)

-- a text that is no number is not also one
pub not_both : (text : List ℕ) → IsDecimal text → IsNotDigits text → ⊥
not_both text is (inl none) = let short : length text ≡ 0 = ap length none in omega arith
not_both text is (inr (inl other)) =
    other.4 (let e = get_or_default_zero text other.0 other.1 other.2 in
    rw (sym (sym e ∙ other.3)) (digit_at text other.0 is.digits.1 other.2))
not_both text is (inr (inr zero_leads)) = let one = is.no_leading_zero zero_leads.0 in omega arith

-- the text of 0
decimal_text-zero : decimal_text 0 ≡ 48 ∷ []
unfolding decimal_text
decimal_text-zero = refl

-- the text of a number above 0
decimal_text-above : (n : ℕ) → 0 < n → decimal_text n ≡ map (λ digit. 48 + digit) (digits_of 10 n)
unfolding decimal_text
decimal_text-above n above = rw (ne_eqb n 0 (λ e. omega arith)) refl

-- the text of digits of which the first is above 0 is decimal
is_decimal-map : (digits : List ℕ) → AllBelowBase 10 digits → 0 < get_or digits 0 0 →
    IsDecimal (map (λ digit. 48 + digit) digits)
is_decimal-map [] all first = absurd (omega arith)
is_decimal-map (d ∷ rest) all first = record {
  digits = (omega arith, all_digits-map (d ∷ rest) all);
  no_leading_zero = λ leads. absurd (omega arith);
}

-- a number's text is decimal
pub is_decimal-decimal_text : (n : ℕ) → IsDecimal (decimal_text n)
is_decimal-decimal_text n = elim (cases_eq n 0) [
  | inl none ↦ rw (none, decimal_text-zero) record { digits = (omega arith, (omega arith, tt)); no_leading_zero = λ _. refl }
  | inr some ↦ rw (decimal_text-above n (omega arith))
      (is_decimal-map (digits_of 10 n) (all_below_base_digits_of 10 n (lit≤ tt)) (first_digits_of 10 n (lit≤ tt) (omega arith)))
]

-- the value of a number's text is the number
pub digits_value-decimal_text : (n : ℕ) → digits_value 10 (decimal_text n) ≡ n
digits_value-decimal_text n = elim (cases_eq n 0) [
  | inl none ↦ rw (none, decimal_text-zero) refl
  | inr some ↦ rw (decimal_text-above n (omega arith))
      (digits_value_is 10 (map (λ digit. 48 + digit) (digits_of 10 n))
      ∙ (ap (number_from_digits 10) (values-map (digits_of 10 n) (all_below_base_digits_of 10 n (lit≤ tt)))
      ∙ number_digits_of 10 n (lit≤ tt)))
]

-- a text whose first digit is above 0 is the text of its value
decimal_text-digits_value_first : (first : ℕ) (rest : List ℕ) → AllDigits 10 (first ∷ rest) → first ≢ 48 →
    decimal_text (digits_value 10 (first ∷ rest)) ≡ first ∷ rest
decimal_text-digits_value_first first rest all some =
    let digits : List ℕ = map digit_value (first ∷ rest) in
    let low = all_below_base_from_digits 10 (first ∷ rest) all in
    let leads : 0 < digit_value first = omega (arith, digit_value_digit first (digit_from_value first all.0)) in
    let own = own_digits digits low leads (length digits) (omega arith) in
    let whole = take-length digits in
    let value = digits_value_is 10 (first ∷ rest) in
    let above : 0 < digits_value 10 (first ∷ rest) = rw (value, ← whole) (own.above (omega arith)) in
    let same : digits_of 10 (digits_value 10 (first ∷ rest)) ≡ digits =
    ap (digits_of 10) value
    ∙ (ap (λ some_digits. digits_of 10 (number_from_digits 10 some_digits)) (sym whole) ∙ (own.own ∙ whole)) in
    decimal_text-above (digits_value 10 (first ∷ rest)) above
    ∙ (ap (map (λ digit. 48 + digit)) same ∙ texts-map (first ∷ rest) all)

-- a decimal text is the text of its value
pub decimal_text-digits_value : (text : List ℕ) → IsDecimal text → decimal_text (digits_value 10 text) ≡ text
decimal_text-digits_value [] is = absurd (omega arith)
decimal_text-digits_value (first ∷ []) is = elim (cases_eq first 48) [
  | inl zero_leads ↦ rw zero_leads decimal_text-zero
  | inr some ↦ decimal_text-digits_value_first first [] is.digits.1 some
]
decimal_text-digits_value (first ∷ second ∷ rest) is =
    let some : first ≢ 48 = λ leads. let one = is.no_leading_zero leads in omega arith in
    decimal_text-digits_value_first first (second ∷ rest) is.digits.1 some

-- no two numbers have the same text
pub decimal_text_injective : (m n : ℕ) → decimal_text m ≡ decimal_text n → m ≡ n
decimal_text_injective m n same = sym (digits_value-decimal_text m) ∙ (ap (digits_value 10) same ∙ digits_value-decimal_text n)

-- a number of two digits or more has the text of its front, and then its last digit
pub decimal_text_step : (n : ℕ) → 10 ≤ n → decimal_text n ≡ decimal_text (n / 10) ++ ((48 + n % 10) ∷ [])
decimal_text_step n long =
    decimal_text-above n (omega arith)
    ∙ (ap (map (λ digit. 48 + digit)) (digits_of_step 10 n (lit≤ tt) (omega arith))
    ∙ (map-append (λ digit. 48 + digit) (digits_of 10 (n / 10)) (n % 10 ∷ [])
    ∙ ap (λ front. front ++ ((48 + n % 10) ∷ [])) (sym (decimal_text-above (n / 10) (omega arith)))))

-- the text of a digit
pub decimal_text-small : (n : ℕ) → n < 10 → decimal_text n ≡ (48 + n) ∷ []
decimal_text-small n small = elim (cases_eq n 0) [
  | inl none ↦ rw (none, decimal_text-zero) refl
  | inr some ↦
      let front : n / 10 ≡ 0 = omega arith in
      let last : n % 10 ≡ n = omega arith in
      rw (decimal_text-above n (omega arith), digits_of_step 10 n (lit≤ tt) (omega arith), front, last) refl
]

-- std's `decimal` is the text of each number with at most 64 digits
pub decimal_is_decimal_text : (n : ℕ) → n < 10 ^ 64 → decimal n ≡ decimal_text n
decimal_is_decimal_text n below = decimal_by_steps_wide (λ m text. text ≡ decimal_text m)
    (λ m small. sym (decimal_text-small m small))
    (λ m front long same. rw same (sym (decimal_text_step m long)))
    n below

-- a text that is no number is no number's
pub not_a_number : (text : List ℕ) (n : ℕ) → IsNotDigits text → text ≡ decimal_text n → ⊥
not_a_number text n isnt same = not_both (decimal_text n) (is_decimal-decimal_text n) (rw same at isnt)

-- the number of a text is its value
pub value_is : (text : List ℕ) (n : ℕ) → text ≡ decimal_text n → digits_value 10 text ≡ n
value_is text n same = ap (digits_value 10) same ∙ digits_value-decimal_text n

-- a decimal text of at most 64 digits is std's `decimal` of its value
pub decimal-digits_value : (text : List ℕ) → IsDecimal text → digits_value 10 text < 10 ^ 64 → text ≡ decimal (digits_value 10 text)
decimal-digits_value text is below =
    sym (decimal_is_decimal_text (digits_value 10 text) below ∙ decimal_text-digits_value text is)

-- the value of std's `decimal`, where that has at most 64 digits
pub digits_value-decimal : (n : ℕ) → n < 10 ^ 64 → digits_value 10 (decimal n) ≡ n
digits_value-decimal n below = ap (digits_value 10) (decimal_is_decimal_text n below) ∙ digits_value-decimal_text n

-- the value of the first digits, and one more
pub value_more : (text : List ℕ) (i value : ℕ) → AllDigits 10 text → i < length text →
    value ≡ digits_value 10 (take i text) →
    value * 10 + (get_or text i 0 - 48) ≡ digits_value 10 (take (i + 1) text)
value_more text i value all within same =
    let more = digits_value_more 10 text i within in
    let byte = digit_value_digit (get_or text i 0) (digit_at text i all within) in
    omega (arith, more, byte, same)

-- no two numbers with at most 64 digits have the same `decimal`
pub decimal_injective : (m n : ℕ) → m < 10 ^ 64 → n < 10 ^ 64 → decimal m ≡ decimal n → m ≡ n
decimal_injective m n m_below n_below same =
    sym (digits_value-decimal m m_below) ∙ (ap (digits_value 10) same ∙ digits_value-decimal n n_below)

-- std's `decimal` is a decimal text
pub is_decimal-decimal : (n : ℕ) → n < 10 ^ 64 → IsDecimal (decimal n)
is_decimal-decimal n below = rw (decimal_is_decimal_text n below) (is_decimal-decimal_text n)

-- std's `decimal` has a first byte
pub decimal_nonempty : (n : ℕ) → n < 10 ^ 64 → 0 < length (decimal n)
decimal_nonempty n below = (is_decimal-decimal n below).digits.0

-- each byte of std's `decimal` is a digit
pub decimal_digit_at : (n i : ℕ) → n < 10 ^ 64 → i < length (decimal n) →
    (48 ≤ get_or (decimal n) i 0) × (get_or (decimal n) i 0 ≤ 57)
decimal_digit_at n i below within = digit_at (decimal n) i (is_decimal-decimal n below).digits.1 within

-- the same, of all its bytes
pub decimal_all_digits : (n : ℕ) → n < 10 ^ 64 → All IsAsciiDigit (decimal n)
decimal_all_digits n below = All-from_get_or IsAsciiDigit (decimal n) 0 (λ i within. decimal_digit_at n i below within)

-- ---- the number at the head of a text

-- digits by their values are digits
digits_by_value : (digits : List ℕ) → AllDigits 10 digits → AllByRecursion IsAsciiDigit digits
digits_by_value [] all = all
digits_by_value (d ∷ rest) all = (digit_from_value d all.0, digits_by_value rest all.1)

values_of_digits : (digits : List ℕ) → AllByRecursion IsAsciiDigit digits → AllDigits 10 digits
values_of_digits [] all = all
values_of_digits (d ∷ rest) all = (omega (arith, digit_value_digit d all.0), values_of_digits rest all.1)

-- a number's text is digits
text_digits : (n : ℕ) → AllByRecursion IsAsciiDigit (decimal_text n)
text_digits n = digits_by_value _ (is_decimal-decimal_text n).digits.1

-- digits are split in one way from what starts with none
one_split : (ds es rest tail : List ℕ) → AllByRecursion IsAsciiDigit ds → AllByRecursion IsAsciiDigit es → StartsWithNoDigit rest → StartsWithNoDigit tail → ds ++ rest ≡ es ++ tail → (ds ≡ es) × (rest ≡ tail)
one_split [] [] rest tail d e r t same = (refl, same)
one_split [] (y ∷ es) (x ∷ rest) tail d e r t same = let first : x ≡ y = cc in absurd (r (subst IsAsciiDigit (sym first) e.0))
one_split [] (y ∷ es) [] tail d e r t same = cc
one_split (x ∷ ds) [] rest (y ∷ tail) d e r t same = let first : x ≡ y = cc in absurd (t (subst IsAsciiDigit first d.0))
one_split (x ∷ ds) [] rest [] d e r t same = cc
one_split (x ∷ ds) (y ∷ es) rest tail d e r t same =
    let behind : ds ++ rest ≡ es ++ tail = cc in
    let first : x ≡ y = cc in
    let others = one_split ds es rest tail d.1 e.1 r t behind in
    let others_0 = others.0 in
    (cc, others.1)

-- only the text of 0 begins with a zero
zero_first : (n : ℕ) (rest : List ℕ) → decimal_text n ≡ 48 ∷ rest → n ≡ 0
zero_first n rest same =
    let one : length (decimal_text n) ≡ 1 = (is_decimal-decimal_text n).no_leading_zero (rw same refl) in
    let short : rest ≡ [] = nil_from_length rest (omega (arith, ap length same)) in
    decimal_text_injective n 0 (same ∙ rw (short, decimal_text-zero) refl)

-- what begins as the text of 0 does
zero_leads : (n : ℕ) (tail rest : List ℕ) → 48 ∷ rest ≡ decimal_text n ++ tail → (n ≡ 0) × (rest ≡ tail)
zero_leads n tail rest same = first (decimal_text n) (is_decimal-decimal_text n).digits.0 refl same
  where
    first : (text : List ℕ) → 0 < length text → decimal_text n ≡ text → 48 ∷ rest ≡ text ++ tail → (n ≡ 0) × (rest ≡ tail)
    first [] some is both = absurd (omega arith)
    first (x ∷ others) some is both =
        let leads : 48 ≡ x = cc in
        let none = zero_first n others (is ∙ rw (← leads) refl) in
        let text : 48 ∷ [] ≡ x ∷ others = sym decimal_text-zero ∙ (ap decimal_text (sym none) ∙ is) in
        let short : [] ≡ others = cc in
        (none, cc)

-- a text starts with one number at most
pub one_leading_number : (text : List ℕ) (m : ℕ) (behind_m : List ℕ) (n : ℕ) (behind_n : List ℕ) → StartsWithNumber text m behind_m → StartsWithNumber text n behind_n → (m ≡ n) × (behind_m ≡ behind_n)
one_leading_number text m a n b first second = elim first.longest [
  | inl none ↦
      let found = zero_leads n b a (sym (first.text_is ∙ rw (none, decimal_text-zero) refl) ∙ second.text_is) in
      (none ∙ sym found.0, found.1)
  | inr other ↦ elim second.longest [
    | inl none ↦
        let found = zero_leads m a b (sym (second.text_is ∙ rw (none, decimal_text-zero) refl) ∙ first.text_is) in
        (found.0 ∙ sym none, sym found.1)
    | inr another ↦
        let parts = one_split (decimal_text m) (decimal_text n) a b (text_digits m) (text_digits n) other another (sym first.text_is ∙ second.text_is) in
        (decimal_text_injective m n parts.0, parts.1)
  ]
]

-- the digits of a number, and what doesn't continue it
pub starts_with_value : (text digits rest : List ℕ) → text ≡ digits ++ rest → IsDecimal digits → (digits ≡ 48 ∷ []) ⊎ StartsWithNoDigit rest → StartsWithNumber text (digits_value 10 digits) rest
starts_with_value text digits rest is fits longest = record {
  text_is = is ∙ ap (λ (ds : List ℕ). ds ++ rest) (sym (decimal_text-digits_value digits fits));
  longest = elim longest [ inl none ↦ inl (ap (digits_value 10) none) | inr other ↦ inr other ];
}

-- the same of digits that are there
pub starts_with_digits : (text digits rest : List ℕ) → text ≡ digits ++ rest → (digits ≡ []) ⊎ IsDecimal digits → (digits ≡ 48 ∷ []) ⊎ StartsWithNoDigit rest → digits ≢ [] → StartsWithNumber text (digits_value 10 digits) rest
starts_with_digits text digits rest is (inl none) longest some = absurd (some none)
starts_with_digits text digits rest is (inr fits) longest some = starts_with_value text digits rest is fits longest

-- where no digit was found, none is there
pub no_digit_starts : (text digits rest : List ℕ) → text ≡ digits ++ rest → (digits ≡ 48 ∷ []) ⊎ StartsWithNoDigit rest → digits ≡ [] → StartsWithNoDigit text
no_digit_starts text digits rest is (inl leading) none = absurd cc
no_digit_starts text digits rest is (inr other) none =
    let same : text ≡ rest = rw none at is in
    rw same other

-- no number starts where there is no digit
pub no_number_starts : (text : List ℕ) (n : ℕ) (rest : List ℕ) → StartsWithNoDigit text → StartsWithNumber text n rest → ⊥
no_number_starts text n rest none starts =
    first (decimal_text n) (is_decimal-decimal_text n).digits.0 (text_digits n) (rw starts.text_is at none)
  where
    first : (digits : List ℕ) → 0 < length digits → AllByRecursion IsAsciiDigit digits → StartsWithNoDigit (digits ++ rest) → ⊥
    first [] some all isnt = omega arith
    first (d ∷ ds) some all isnt = isnt all.0

-- digits of which the first is no zero are a number's
pub decimal_or_none : (text digits rest : List ℕ) → text ≡ digits ++ rest → All IsAsciiDigit digits → (0 < length text → get_or text 0 0 ≢ 48) → (digits ≡ []) ⊎ IsDecimal digits
decimal_or_none text [] rest is all leads = inl refl
decimal_or_none text (d ∷ ds) rest is all leads = inr (record {
  digits = (omega arith, values_of_digits (d ∷ ds) (recursion_from_All IsAsciiDigit (d ∷ ds) all));
  no_leading_zero = λ leading.
      let some : 0 < length text = rw is (omega arith) in
      let first : get_or text 0 0 ≡ d = rw is refl in
      absurd (leads some (first ∙ leading));
})

-- a fault of `leading_decimal` comes only if no number up to the limit leads the text
pub none_leads : (text : List ℕ) (greatest : ℕ) (fault : DecimalFault) → (fault ≡ NotDigits → StartsWithNoDigit text) → (fault ≡ TooLarge → (n : ℕ) × (rest : List ℕ) × (greatest < n) × StartsWithNumber text n rest) → (n : ℕ) (rest : List ℕ) → n ≤ greatest → StartsWithNumber text n rest → ⊥
none_leads text greatest NotDigits none large n rest below starts = no_number_starts text n rest (none refl) starts
none_leads text greatest TooLarge none large n rest below starts =
    let found = large refl in
    let same = (one_leading_number text n rest found.0 found.1 starts found.3).0 in
    omega (arith, same, found.2)
