-- The number at the head of bytes, both ways: bytes begin with a digit or with the text of one number.
use Rattle.std.proofs.Common.{◌≡◌, ◌≢◌, ℕ, ◌<◌, ◌^◌, ◌⊎◌, inl, inr, ◌++◌, List, [], ◌∷◌, Bool, true, false, cond, nat_lt, ◌==◌, Option, Some, None, Result, Ok, Err, refl, sym, ap, ◌∙◌, subst, arith}
use Rattle.std.proofs.lemmas.Bool.{cases_eq}
use Rattle.std.proofs.lemmas.Bool.Decides.{nat_tests}
use Rattle.std.proofs.lemmas.List.Elements.{All-from_recursion}
use Rattle.std.specs.Char.{IsAsciiDigit}
use Rattle.std.specs.List.{AllByRecursion}
use Rattle.std.specs.Str.Parse.{digits_value}
use Rattle.byte_reading.specs.Decimal.{decimal_text, StartsWithNoDigit, StartsWithNumber}
use Rattle.byte_reading.proofs.DecimalLaws.{starts_with_digits, decimal_or_none}
use Rattle.text_reading.specs.Reading.{Answer, Answer.answers}
use Rattle.text_reading.specs.Tokens.{is_digit}
use Rattle.text_reading.proofs.NumberFacts.{digit_bounds}
use Rattle.typed_values.specs.Marks.{leading, below, number_at}
use Rattle.typed_values.specs.Reading.{gas_of, any_number, gas_at}
use Rattle.typed_values.specs.declared.fault.ValueLimit.{ValueLimit}
use Rattle.typed_values.specs.declared.fault.ValueLimit.TheVariants as limits
use Rattle.typed_values.proofs.Numbers.{either, a_digit, zero_text, leading_number, leading_none}

abbrev Begins : List ℕ → Type 0
Begins bytes = StartsWithNoDigit bytes ⊎ ((n : ℕ) × (rest : List ℕ) × StartsWithNumber bytes n rest)

-- the digits at the head
split : (bytes : List ℕ) → (digits rest : List ℕ) × (bytes ≡ digits ++ rest) × AllByRecursion IsAsciiDigit digits × StartsWithNoDigit rest
split [] = ([], [], refl, tt, tt)
split (b ∷ bs) = elim (either (is_digit b)) [
  | inl digit ↦ let s = split bs in (b ∷ s.0, s.1, ap (λ l. b ∷ l) s.2, (digit_bounds b digit, s.3), s.4)
  | inr other ↦ ([], b ∷ bs, refl, tt, λ is. let digit : is_digit b ≡ true = a_digit b is in cc)
]

pub begins_number : (bytes : List ℕ) → Begins bytes
begins_number [] = inl tt
begins_number (b ∷ bs) = elim (cases_eq b 48) [
  | inl zero ↦ inr (0, bs, record { text_is = ap (λ d. d ∷ bs) zero ∙ ap (λ t. t ++ bs) (sym zero_text); longest = inl refl })
  | inr other ↦ let s = split (b ∷ bs) in go other s.0 s.1 s.2 s.3 s.4
]
  where
    go : b ≢ 48 → (digits rest : List ℕ) → b ∷ bs ≡ digits ++ rest → AllByRecursion IsAsciiDigit digits → StartsWithNoDigit rest → Begins (b ∷ bs)
    go other [] rest is all tail = inl (subst StartsWithNoDigit (sym is) tail)
    go other (d ∷ ds) rest is all tail =
        let fits = decimal_or_none (b ∷ bs) (d ∷ ds) rest is (All-from_recursion IsAsciiDigit (d ∷ ds) all) (λ some. other) in
        inr (digits_value 10 (d ∷ ds), rest, starts_with_digits (b ∷ bs) (d ∷ ds) rest is fits (inr tail) (λ e. cc))

same_pair : (m n : ℕ) (a b : List ℕ) → ◌≡◌ {A = Option (ℕ × List ℕ)} (Some (m, a)) (Some (n, b)) → (m ≡ n) × (a ≡ b)
same_pair m n a b is =
    let pair : ◌≡◌ {A = ℕ × List ℕ} (m, a) (n, b) = cc in
    (ap (λ (p : ℕ × List ℕ). p.0) pair, ap (λ (p : ℕ × List ℕ). p.1) pair)

pub leading_sound : (bytes : List ℕ) (n : ℕ) (rest : List ℕ) → leading bytes ≡ Some (n, rest) → StartsWithNumber bytes n rest
leading_sound bytes n rest is = elim (begins_number bytes) [
  | inl none ↦ let other : leading bytes ≡ None = leading_none bytes none in let never : ⊥ = cc in absurd never
  | inr some ↦
      let other : leading bytes ≡ Some (some.0, some.1) = leading_number bytes some.0 some.1 some.2 in
      let same = same_pair some.0 n some.1 rest (sym other ∙ is) in
      subst (λ m. StartsWithNumber bytes m rest) same.0 (subst (λ r. StartsWithNumber bytes some.0 r) same.1 some.2)
]

-- ---- a number below a limit

pub is_below : (n limit : ℕ) → nat_lt n limit ≡ true → n < limit
is_below n limit is = grind (arith, nat_tests)

pub test_below : (n limit : ℕ) → n < limit → nat_lt n limit ≡ true
test_below n limit is = grind (arith, nat_tests)

pub number_sound : (limit n : ℕ) (bytes rest : List ℕ) → number_at limit bytes ≡ answers (Ok n) rest → (n < limit) × StartsWithNumber bytes n rest
unfolding number_at
number_sound limit n bytes rest is = go (leading bytes) refl is
  where
    tested : (t : Bool) (m : ℕ) (tail : List ℕ) → nat_lt m limit ≡ t → leading bytes ≡ Some (m, tail)
        → cond t (answers (Ok m) tail) (answers (Err (Some limits.OutOfRange)) bytes) ≡ answers (Ok n) rest → (n < limit) × StartsWithNumber bytes n rest
    tested false m tail test leads is = let never : ⊥ = cc in absurd never
    tested true m tail test leads is =
        let number_is : m ≡ n = cc in
        let rest_is : tail ≡ rest = cc in
        let here : leading bytes ≡ Some (n, rest) = cc in
        (subst (λ k. k < limit) number_is (is_below m limit test), leading_sound bytes n rest here)

    go : (o : Option (ℕ × List ℕ)) → leading bytes ≡ o → below limit o bytes ≡ answers (Ok n) rest → (n < limit) × StartsWithNumber bytes n rest
    go None leads is = let never : ⊥ = cc in absurd never
    go (Some (m, tail)) leads is = tested (nat_lt m limit) m tail refl leads is

pub number_complete : (limit n : ℕ) (bytes rest : List ℕ) → n < limit → StartsWithNumber bytes n rest → number_at limit bytes ≡ answers (Ok n) rest
unfolding number_at
number_complete limit n bytes rest within starts =
    ap (λ o. below limit o bytes) (leading_number bytes n rest starts)
    ∙ ap (λ t. cond t (answers (Ok n) rest) (answers (Err (Some limits.OutOfRange)) bytes)) (test_below n limit within)

-- no number begins with a byte that is no digit
pub no_number_here : (limit n : ℕ) (bytes rest : List ℕ) → StartsWithNoDigit bytes → number_at limit bytes ≡ answers (Ok n) rest → ⊥
unfolding number_at
no_number_here limit n bytes rest free is =
    let other : below limit (leading bytes) bytes ≡ answers (Err None) bytes = ap (λ o. below limit o bytes) (leading_none bytes free) in
    cc

-- ---- the gas

pub gas_sound : (n : ℕ) (bytes rest : List ℕ) → gas_at bytes ≡ answers (Ok (Some n)) rest → (n < 2 ^ 32) × StartsWithNumber bytes n rest
unfolding gas_at
gas_sound n bytes rest is = go (leading bytes) refl is
  where
    tested : (t : Bool) (m : ℕ) → nat_lt m (2 ^ 32) ≡ t → cond t (Some m) None ≡ Some n → (m ≡ n) × (n < 2 ^ 32)
    tested false m test is = let never : ⊥ = cc in absurd never
    tested true m test is = let number_is : m ≡ n = cc in (number_is, subst (λ k. k < 2 ^ 32) number_is (is_below m (2 ^ 32) test))

    go : (o : Option (ℕ × List ℕ)) → leading bytes ≡ o → any_number o bytes ≡ answers (Ok (Some n)) rest → (n < 2 ^ 32) × StartsWithNumber bytes n rest
    go None leads is = let never : ⊥ = cc in absurd never
    go (Some (m, tail)) leads is =
        let gas_is : gas_of m ≡ Some n = cc in
        let rest_is : tail ≡ rest = cc in
        let found = tested (nat_lt m (2 ^ 32)) m refl gas_is in
        let number_is : m ≡ n = found.0 in
        let here : leading bytes ≡ Some (n, rest) = cc in
        (found.1, leading_sound bytes n rest here)

pub gas_complete : (n : ℕ) (bytes rest : List ℕ) → n < 2 ^ 32 → StartsWithNumber bytes n rest → gas_at bytes ≡ answers (Ok (Some n)) rest
unfolding gas_at
gas_complete n bytes rest within starts =
    ap (λ o. any_number o bytes) (leading_number bytes n rest starts)
    ∙ ap (λ t. answers (Ok (cond t (Some n) None)) rest) (test_below n (2 ^ 32) within)
