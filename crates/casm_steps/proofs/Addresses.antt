-- Addresses of cells, by offsets.
use Rattle.std.proofs.Common.{◌≡◌, ℕ, suc, ◌+◌, ◌≤◌, ℤ, pos, negsuc, ◌+ℤ◌, ◌-ℤ◌, ◌≤ℤ◌, refl, arith}
use Rattle.std.proofs.lemmas.Int.{ints}
use Rattle.felt64.specs.Field.{modulus, sum}
use Rattle.casm_word.specs.Offset.{minus, IsNear}
use Rattle.ro_machine.specs.Step.{moved}

-- the base moved up by n, and the offset is n less
pub moved_up : (a n : ℕ) (less off : ℤ) → off ≡ less +ℤ pos n → minus modulus ≤ℤ less → moved (sum a n) less ≡ moved a off
moved_up a n (pos k) (pos l) is above = let same : l ≡ k + n = omega (arith, ints) in omega arith
moved_up a n (pos k) (negsuc l) is above = absurd (omega (arith, ints))
moved_up a n (negsuc k) (pos l) is above = let same : l + suc k ≡ n = omega (arith, ints) in let low : suc k ≤ modulus = omega (arith, ints) in omega arith
moved_up a n (negsuc k) (negsuc l) is above = let same : suc k ≡ suc l + n = omega (arith, ints) in let low : suc k ≤ modulus = omega (arith, ints) in omega arith

-- an offset of 16 bits isn't below -P
pub near_above : (off : ℤ) → IsNear off → minus modulus ≤ℤ off
near_above off near = omega (arith, ints)

pub moved_near : (a n : ℕ) (off : ℤ) → IsNear off → moved (sum a n) off ≡ moved a (off +ℤ pos n)
moved_near a n off near = moved_up a n off (off +ℤ pos n) refl (near_above off near)

pub lowered_below : (n : ℕ) (off : ℤ) → off ≡ (off -ℤ pos n) +ℤ pos n
lowered_below n off = omega (arith, ints)
