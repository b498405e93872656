-- A trace as it is stored: what each statement has, if it is seen, and which statements wait.
use Rattle.std.specs.Prelude.{◌≡◌, ℕ, ◌+◌, Bool, IsTrue, List, [], ◌∷◌, Option, Some, None, if◌then◌else◌}
use Rattle.std.specs.List.{slice_get}
use Rattle.statement_walk.specs.Walk.{Seen, unseen, waiting, done, Trace}

-- what a statement has, where it is known whether it waits
abbrev pub mark : {E : Type 0} → Bool → Option (ℕ × E) → Seen E
mark waits None = unseen
mark waits (Some x) = if waits then waiting x.0 x.1 else done x.0 x.1

-- the statements from s on
abbrev pub marks : {E : Type 0} → (ℕ → Bool) → ℕ → List (Option (ℕ × E)) → Trace E
marks waits s [] = []
marks waits s (x ∷ more) = mark (waits s) x ∷ marks waits (s + 1) more

-- what waits is seen
abbrev pub AreSeen : {E : Type 0} → (ℕ → Bool) → List (Option (ℕ × E)) → Type 0
AreSeen {E} waits stored = (s : ℕ) → IsTrue (waits s) → (x : ℕ × E) × (slice_get stored s ≡ Some (Some x))
