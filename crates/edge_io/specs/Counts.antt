-- Counts of calls and faults: they never fall, and stay at the greatest value of a u64.
use Rattle.std.specs.Prelude.{ℕ, ◌+◌, ◌-◌, ◌^◌, ◌≤◌, ◌==◌, Bool, List, min}
use Rattle.std.specs.List.{list_any}

-- the count after one more
abbrev pub risen : ℕ → ℕ
risen before = min (before + 1) (2 ^ 64 - 1)

-- the count rose, or is at its greatest value
abbrev pub Rose : ℕ → ℕ → Type 0
Rose before now = risen before ≤ now

-- whether the list has the number of this call
abbrev pub call_fails : List ℕ → ℕ → Bool
call_fails fails call = list_any (λ n. n == call) fails
