use Rattle.std.proofs.Common.{ℕ, ◌<◌, ◌≤◌, get_or}
use Rattle.least_needs.specs.Needs.{limit}
use Rattle.least_needs.proofs.solving.first_large.Given as goal

abbrev pub invariant-loop-i : goal.invariant-loop-i
invariant-loop-i l = (k : ℕ) → k < l.i → limit ≤ get_or l.needs k 0 → ⊥
