-- Which pieces lead to a branch that has an entry.
use Rattle.std.specs.Prelude.{ℕ, ◌<◌, ◌≤◌, ◌^◌, List, length, slice_index}
use Rattle.frag_code.specs.declared.piece.Piece.{Piece}
use Rattle.frag_code.specs.declared.piece.Piece.TheVariants as piece

-- the branch, if the piece ends with one, has an entry, which is a place
abbrev pub IsLed : List ℕ → Piece → Type 0
IsLed exits (piece.Let e) = Unit {0}
IsLed exits (piece.Reserve n) = Unit {0}
IsLed exits (piece.Hint cell ask) = Unit {0}
IsLed exits (piece.Assert cell e) = Unit {0}
IsLed exits (piece.Range pointer at cell) = Unit {0}
IsLed exits (piece.IfNonZero cell to) = Unit {0}
IsLed exits (piece.Exit x) = (x < length exits) × (slice_index exits x ≤ 2 ^ 25)
