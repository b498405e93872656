-- What `emit` keeps while it goes through the pieces.
use Rattle.std.specs.Prelude.{ℕ, ◌+◌, ◌-◌, ◌^◌, ◌<◌, ◌≤◌, Bool, List, [], ◌∷◌, length, slice_index}
use Rattle.felt64.specs.Field.{difference}
use Rattle.frag_code.specs.declared.piece.Piece.{Piece}
use Rattle.frag_code.specs.declared.piece.Piece.TheVariants as piece
use Rattle.frag_code.specs.Emit.{cells_of}

-- the code cells at which pieces lie, of which the first lies at a place
abbrev pub places_from : Bool → ℕ → List Piece → List ℕ
places_from jumps at [] = []
places_from jumps at (p ∷ ps) = at ∷ places_from jumps (at + cells_of jumps p) ps

-- where the jump of a piece at a place leads is known from the places of the pieces and of the branches
abbrev pub IsLeap : Piece → ℕ → List ℕ → List ℕ → Type 0
IsLeap (piece.Let e) place places exits = Unit {0}
IsLeap (piece.Reserve n) place places exits = Unit {0}
IsLeap (piece.Hint cell ask) place places exits = Unit {0}
IsLeap (piece.Assert cell e) place places exits = Unit {0}
IsLeap (piece.Range pointer at cell) place places exits = Unit {0}
IsLeap (piece.IfNonZero cell to) place places exits = (to < length places) × (place ≤ slice_index places to) × (slice_index places to ≤ 2 ^ 25)
IsLeap (piece.Exit x) place places exits = (x < length exits) × (slice_index exits x ≤ 2 ^ 25)

-- the distance of a piece's jump, from these places
abbrev pub leap_of : Piece → ℕ → List ℕ → List ℕ → ℕ
leap_of (piece.Let e) place places exits = 0
leap_of (piece.Reserve n) place places exits = 0
leap_of (piece.Hint cell ask) place places exits = 0
leap_of (piece.Assert cell e) place places exits = 0
leap_of (piece.Range pointer at cell) place places exits = 0
leap_of (piece.IfNonZero cell to) place places exits = slice_index places to - place
leap_of (piece.Exit x) place places exits = difference (slice_index exits x) place
