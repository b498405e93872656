-- The nearest of some nodes, by distance and then by number.
use Rattle.std.specs.Prelude.{◌≡◌, ◌⊎◌, ℕ, ◌<◌, ◌≤◌, List, Option, None, Some, slice_index, slice_index_or}
use Rattle.std.specs.List.{Contains}

-- a distance with its node isn't past another one
abbrev pub IsNear : ℕ × ℕ → ℕ × ℕ → Type 0
IsNear a b = (a.0 < b.0) ⊎ ((a.0 ≡ b.0) × (a.1 ≤ b.1))

-- the lesser of two, of which the first may be missing
abbrev pub IsNearer : Option (ℕ × ℕ) → ℕ × ℕ → ℕ × ℕ → Type 0
IsNearer None other result = result ≡ other
IsNearer (Some best) other result = ((result ≡ best) × IsNear best other) ⊎ ((result ≡ other) × IsNear other best)

abbrev pub distance : List (Option ℕ) → ℕ → Option ℕ
distance distances t = slice_index_or distances t None

-- the least distance with its node, of the first so many nodes
abbrev pub IsBest : List ℕ → List (Option ℕ) → ℕ → Option (ℕ × ℕ) → Type 0
IsBest nodes distances count None = (k : ℕ) → k < count → distance distances (slice_index nodes k) ≡ None
IsBest nodes distances count (Some best) = ((k : ℕ) × (k < count) × (slice_index nodes k ≡ best.1)) × (distance distances best.1 ≡ Some best.0) × ((k j : ℕ) → k < count → distance distances (slice_index nodes k) ≡ Some j → IsNear best (j, slice_index nodes k))

-- the nearest of the nodes
abbrev pub IsNearest : List ℕ → List (Option ℕ) → Option ℕ → Type 0
IsNearest nodes distances None = (t : ℕ) → Contains nodes t → distance distances t ≡ None
IsNearest nodes distances (Some t) = Contains nodes t × ((j : ℕ) × (distance distances t ≡ Some j) × ((u i : ℕ) → Contains nodes u → distance distances u ≡ Some i → IsNear (j, t) (i, u)))
