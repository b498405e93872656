-- Readers of the tokens, each a scan.
use Rattle.text_reading.specs.declared.tokens.Spot.{Spot}
use Rattle.text_reading.specs.declared.tokens.Spot.TheVariants as spots
use Rattle.std.specs.Prelude.{ℕ, ◌+◌, ◌-◌, ◌*◌, List, [], ◌∷◌, Bool, cond, not, ◌&&◌, ◌||◌, ◌==◌, Option, None, Some, Result, Ok, Err}
use Rattle.text_reading.specs.Reading.{Answer.answers, Reader, done, ◌>>=◌, scan, items_at}
use Rattle.text_reading.specs.Tokens.{is_blank, is_digit, is_word_byte, is_within}

-- ---- blanks

abbrev pub next_spot : Spot → ℕ → Option Spot
next_spot spots.Outside byte = cond (is_blank byte) (Some spots.Outside) (cond (byte == 47) (Some spots.AfterSlash) None)
next_spot spots.AfterSlash byte = cond (byte == 47) (Some spots.InComment) None
next_spot spots.InComment byte = cond (byte == 10) (Some spots.Outside) (Some spots.InComment)

abbrev pub blanks_end : {K : Type 0} → Spot → Option ℕ → Result (Unit {0}) (Option K)
blanks_end spots.Outside byte = Ok tt
blanks_end spots.AfterSlash byte = Err None
blanks_end spots.InComment byte = Ok tt

unfoldable pub blanks_at : {K : Type 0} → Reader K (Unit {0})
blanks_at = scan next_spot blanks_end spots.Outside

-- what was read, and the blanks behind it
abbrev pub token : {K A : Type 0} → Reader K A → Reader K A
token reader = reader >>= λ x. blanks_at >>= λ _. done x

-- ---- marks and words

-- the bytes of a literal that are still to come
abbrev pub next_literal : List ℕ → ℕ → Option (List ℕ)
next_literal [] byte = None
next_literal (wanted ∷ more) byte = cond (byte == wanted) (Some more) None

abbrev pub literal_end : {K : Type 0} → List ℕ → Option ℕ → Result (Unit {0}) (Option K)
literal_end [] byte = Ok tt
literal_end (wanted ∷ more) byte = Err None

unfoldable pub literal_at : {K : Type 0} → List ℕ → Reader K (Unit {0})
literal_at = scan next_literal literal_end

unfoldable pub mark_at : {K : Type 0} → List ℕ → Reader K (Unit {0})
mark_at bytes = token (literal_at bytes)

-- no letter, digit or `_` is next
abbrev pub word_end : {K : Type 0} → Option ℕ → Result (Unit {0}) (Option K)
word_end None = Ok tt
word_end (Some byte) = cond (is_word_byte byte) (Err None) (Ok tt)

unfoldable pub word_end_at : {K : Type 0} → Reader K (Unit {0})
word_end_at = scan {S = Unit {0}} (λ unit byte. None) (λ unit byte. word_end byte) tt

abbrev pub whole_word_at : {K : Type 0} → List ℕ → Reader K (Unit {0})
whole_word_at bytes = literal_at bytes >>= λ _. word_end_at

unfoldable pub word_at : {K : Type 0} → List ℕ → Reader K (Unit {0})
word_at bytes = token (whole_word_at bytes)

-- ---- numbers

-- the number that is one digit longer
abbrev pub longer : ℕ → ℕ → ℕ
longer n byte = n * 10 + (byte - 48)

-- The number that the digits so far write, if there are any: after a 0 no digit goes on. Where a 0 may not stand,
-- the first digit is another.
abbrev pub next_number : Option ℕ → Bool → Option ℕ → ℕ → Option (Option ℕ)
next_number limit zero_too None byte = cond (is_digit byte && (zero_too || not (byte == 48))) (Some (Some (byte - 48))) None
next_number limit zero_too (Some n) byte = cond (not (n == 0) && (is_digit byte && is_within limit (longer n byte))) (Some (Some (longer n byte))) None

abbrev pub number_end : {K : Type 0} → K → Option ℕ → Option ℕ → Result ℕ (Option K)
number_end kind None byte = Err None
number_end kind (Some n) None = Ok n
number_end kind (Some n) (Some byte) = cond (is_digit byte) (Err (cond (n == 0) None (Some kind))) (Ok n)

-- the first digit
abbrev pub first_digit_at : {K : Type 0} → Bool → Reader K ℕ
first_digit_at zero_too [] = answers (Err None) []
first_digit_at zero_too (byte ∷ rest) = cond (is_digit byte && (zero_too || not (byte == 48))) (answers (Ok (byte - 48)) rest) (answers (Err None) (byte ∷ rest))

unfoldable pub digits_at : {K : Type 0} → Option ℕ → Bool → K → Reader K ℕ
digits_at limit zero_too kind = scan (next_number limit zero_too) (number_end kind) None

unfoldable pub number_at : {K : Type 0} → Option ℕ → Bool → K → Reader K ℕ
number_at limit zero_too kind = token (digits_at limit zero_too kind)

-- a whole text of items, with blanks before the first
unfoldable pub text_at : {K A : Type 0} → Reader K A → Reader K (List A)
text_at item = blanks_at >>= λ _. items_at item
