-- Offsets in cells, which may be negative.
use Rattle.std.specs.Prelude.{ℕ, zero, suc, ℤ, pos, negsuc, FitsSigned}
use Rattle.std.specs.Int.{w16}

-- the number below 0, so that `minus 3` is -3
abbrev pub minus : ℕ → ℤ
minus zero = pos 0
minus (suc n) = negsuc n

-- The offset of an instruction has 16 bits: it lies from -2 ^ 15 to 2 ^ 15 - 1.
abbrev pub IsNear : ℤ → Type 0
IsNear offset = FitsSigned w16 offset
