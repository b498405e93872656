-- The digits of a word, as they are padded.
use Rattle.std.proofs.Common.{◌≡◌, ℕ, ◌-◌, ◌^◌, List, ◌++◌, [], false, length, replicate, ap, ◌∙◌, arith}
use Rattle.std.proofs.lemmas.List.{append_assoc, append-nil}
use Rattle.std.specs.Fmt.{digits, padded_integral, format_spec, char_count}

-- digits behind so many zeros
behind_zeros : (padding zeros : ℕ) (numeral rest : List ℕ) → padding ≡ zeros → (replicate padding 48 ++ (numeral ++ [])) ++ rest ≡ replicate zeros 48 ++ (numeral ++ rest)
behind_zeros padding zeros numeral rest same =
    append_assoc (replicate padding 48) (numeral ++ []) rest ∙ ap (λ n. replicate n 48 ++ ((numeral ++ []) ++ rest)) same ∙ ap (λ text. replicate zeros 48 ++ (text ++ rest)) (append-nil numeral)

-- a width of sixteen, with zeros before the digits
filled : (numeral rest : List ℕ) → padded_integral (format_spec 32 0 4 16 (2 ^ 64 - 1)) false [] numeral ++ rest ≡ replicate (16 - length numeral) 48 ++ (numeral ++ rest)
unfolding padded_integral char_count
filled numeral rest = behind_zeros (16 - length numeral - 0 - 0) (16 - length numeral) numeral rest (omega arith)

pub padded_word : (n : ℕ) (rest : List ℕ) → padded_integral (format_spec 32 0 4 16 (2 ^ 64 - 1)) false [] (digits 16 false n) ++ rest ≡ replicate (16 - length (digits 16 false n)) 48 ++ (digits 16 false n ++ rest)
padded_word n rest = filled (digits 16 false n) rest
