-- The decimal texts of the natural numbers, of any length, and the number at the head of a text.
use Rattle.std.specs.Prelude.{ℕ, ◌+◌, ◌≡◌, ◌<◌, ◌⊎◌, List, [], ◌∷◌, ◌++◌, length, slice_index, map, Any, ◌==◌, if◌then◌else◌}
use Rattle.std.specs.Char.{IsAsciiDigit}
use Rattle.std.specs.Int.Digits.{digits_of}
use Rattle.std.specs.Str.Parse.{IsNumeral}

-- n in decimal, of any length: std's `decimal` is the same below 10 ^ 64, and the last 64 digits alone from there on
unfoldable pub decimal_text : ℕ → List ℕ
decimal_text n = if n == 0 then 48 ∷ [] else map (λ digit. 48 + digit) (digits_of 10 n)

abbrev pub HasNonDigit : List ℕ → Type 0
HasNonDigit text = Any (λ byte. ¬ IsAsciiDigit byte) text

-- a zero, and a byte after it
abbrev pub HasLeadingZero : List ℕ → Type 0
HasLeadingZero text = (slice_index text 0 ≡ 48) × (1 < length text)

-- no number is written so
abbrev pub IsNotDigits : List ℕ → Type 0
IsNotDigits text = (text ≡ []) ⊎ (HasNonDigit text ⊎ HasLeadingZero text)

-- digits, and more than one only where the first is no zero
pub record IsDecimal (text : List ℕ) : Type 0 where
  pub digits : IsNumeral 10 text
  pub no_leading_zero : slice_index text 0 ≡ 48 → length text ≡ 1

-- the text is empty, or its first byte is no digit
abbrev pub StartsWithNoDigit : List ℕ → Type 0
StartsWithNoDigit [] = Unit {0}
StartsWithNoDigit (byte ∷ rest) = IsAsciiDigit byte → ⊥

-- the text is a number's, as long as it may be, and then the rest: behind 0 no digit continues a number
pub record StartsWithNumber (text : List ℕ) (n : ℕ) (rest : List ℕ) : Type 0 where
  pub text_is : text ≡ decimal_text n ++ rest
  pub longest : (n ≡ 0) ⊎ StartsWithNoDigit rest
