-- The field of P = 2 ^ 64 - 2 ^ 32 + 1: the numbers below P, with sum, difference and product modulo P.
use Rattle.std.specs.Prelude.{ℕ, ◌+◌, ◌-◌, ◌*◌, ◌%◌}

-- P
abbrev pub modulus : ℕ
modulus = 18446744069414584321

abbrev pub sum : ℕ → ℕ → ℕ
sum a b = (a + b) % modulus

abbrev pub difference : ℕ → ℕ → ℕ
difference a b = (a + (modulus - b)) % modulus

abbrev pub product : ℕ → ℕ → ℕ
product a b = (a * b) % modulus

abbrev pub negative : ℕ → ℕ
negative a = (modulus - a) % modulus
