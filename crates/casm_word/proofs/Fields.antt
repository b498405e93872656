-- Fields of a word's bits: their bits, the sum that they make, and the fields of a sum.
use Rattle.std.proofs.Common.{◌≡◌, ℕ, ◌+◌, ◌*◌, ◌/◌, ◌%◌, ◌^◌, ◌<◌, sym, ap, subst, ◌∙◌}
use Rattle.std.specs.Int.{bit_at}
use Rattle.std.proofs.lemmas.Nat.{shr-shr, shr_split, shr_high, mod_low, mod_below, pow_pos}
use Rattle.std.proofs.lemmas.Nat.Bits.{bit_at_cat_low}
use Rattle.casm_word.specs.Decoding.{field}

pub bit_of_field : (word at count i : ℕ) → i < count → bit_at (field word at count) i ≡ bit_at word (at + i)
bit_of_field word at count i lt =
    let m = word / 2 ^ at in
    let low : bit_at (m / 2 ^ count * 2 ^ count + m % 2 ^ count) i ≡ bit_at (m % 2 ^ count) i = bit_at_cat_low (m / 2 ^ count) count (m % 2 ^ count) i lt in
    let same : bit_at m i ≡ bit_at (m % 2 ^ count) i = subst (λ n. bit_at n i ≡ bit_at (m % 2 ^ count) i) (shr_split m count) low in
    sym same ∙ ap (λ n. n % 2) (shr-shr word at i)

pub field_below : (word at count : ℕ) → field word at count < 2 ^ count
field_below word at count = mod_below (word / 2 ^ at) (2 ^ count) (pow_pos count)

-- the number in the middle of a sum
pub field_is : (word high middle low at count : ℕ) → word ≡ (high * 2 ^ count + middle) * 2 ^ at + low → low < 2 ^ at → middle < 2 ^ count → field word at count ≡ middle
field_is word high middle low at count is below within =
    ap (λ n. field n at count) is ∙ ap (λ n. n % 2 ^ count) (shr_high (high * 2 ^ count + middle) at low below) ∙ mod_low high count middle within

-- what is left of a word from a place on is a field, and what is left behind it
pub split_field : (word at count : ℕ) → word / 2 ^ at ≡ word / 2 ^ (at + count) * 2 ^ count + field word at count
split_field word at count = sym (shr_split (word / 2 ^ at) count) ∙ ap (λ n. n * 2 ^ count + field word at count) (shr-shr word at count)
