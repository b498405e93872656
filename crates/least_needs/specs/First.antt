-- The first of some numbers.
use Rattle.std.specs.Prelude.{ℕ, ◌<◌, Option, None, Some}

-- the first number below n of which P holds, if there is one
abbrev pub IsFirst : (ℕ → Type 0) → ℕ → Option ℕ → Type 0
IsFirst P n None = (k : ℕ) → k < n → ¬ P k
IsFirst P n (Some i) = (i < n) × P i × ((k : ℕ) → k < i → ¬ P k)
