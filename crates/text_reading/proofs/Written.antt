-- What is written so is read as its form: tokens with what follows them.
use Rattle.std.proofs.Common.{◌≡◌, ℕ, ◌<◌, ◌≤◌, ◌^◌, List, [], ◌∷◌, ◌++◌, length, get_or, true, false, eqb, ◌||◌, Option, refl, ap, arith}
use Rattle.std.specs.Prelude.{decimal}
use Rattle.std.proofs.lemmas.Bool.{ne_eqb, or_from}
use Rattle.byte_reading.proofs.DecimalLaws.{decimal_is_decimal_text, decimal_nonempty, decimal_digit_at}
use Rattle.text_reading.specs.Tokens.{NoneNext, is_digit, is_word_byte, is_within, is_blank, Blanks, Mark, Word, Number}
use Rattle.text_reading.proofs.BlankFacts.{Fresh, is_gap, blanks_none, blanks_sound}

-- no blanks
pub blanks_here : (rest : List ℕ) → Fresh rest → Blanks rest rest
blanks_here rest fresh = blanks_sound {K = ℕ} rest rest (blanks_none rest fresh)

-- one space
pub blank_space : (rest : List ℕ) → Fresh rest → Blanks (32 ∷ rest) rest
blank_space rest fresh = blanks_here rest fresh

-- a line end
pub blank_line : (rest : List ℕ) → Fresh rest → Blanks (10 ∷ rest) rest
blank_line rest fresh = blanks_here rest fresh

pub mark_written : (bytes after rest : List ℕ) → Blanks after rest → Mark bytes (bytes ++ after) rest
mark_written bytes after rest blanks = (after, refl, blanks)

pub word_written : (bytes after rest : List ℕ) → NoneNext is_word_byte after → Blanks after rest → Word bytes (bytes ++ after) rest
word_written bytes after rest ends blanks = (after, (refl, ends), blanks)

pub number_written : (limit : Option ℕ) (n : ℕ) (after rest : List ℕ) → n < 10 ^ 64 → is_within limit n ≡ true → NoneNext is_digit after → Blanks after rest
    → Number limit n (decimal n ++ after) rest
number_written limit n after rest small within ends blanks =
    (after, record { text_is = ap (λ (t : List ℕ). t ++ after) (decimal_is_decimal_text n small); whole = ends; within = within }, blanks)

-- a digit is no blank and begins no comment
digit_fresh : (byte : ℕ) → 48 ≤ byte → is_gap byte ≡ false
digit_fresh byte low =
    or_from (is_blank byte) (eqb byte 47)
    (or_from (eqb byte 32 || eqb byte 9 || eqb byte 13) (eqb byte 10)
    (or_from (eqb byte 32 || eqb byte 9) (eqb byte 13)
    (or_from (eqb byte 32) (eqb byte 9) (ne_eqb byte 32 (λ e. omega arith)) (ne_eqb byte 9 (λ e. omega arith)))
    (ne_eqb byte 13 (λ e. omega arith)))
    (ne_eqb byte 10 (λ e. omega arith)))
    (ne_eqb byte 47 (λ e. omega arith))

-- a number may stand where a token begins
pub number_fresh : (n : ℕ) (after : List ℕ) → n < 10 ^ 64 → Fresh (decimal n ++ after)
number_fresh n after small = go (decimal n) (decimal_nonempty n small) (decimal_digit_at n 0 small (decimal_nonempty n small)).0
  where
    go : (text : List ℕ) → 0 < length text → 48 ≤ get_or text 0 0 → Fresh (text ++ after)
    go [] some low = absurd (omega arith)
    go (byte ∷ text) some low = digit_fresh byte low
