-- What is read of the cells of a memory: each cell's word in turn, and None of a cell that isn't listed.
use Rattle.std.specs.Prelude.{ℕ, zero, suc, ◌+◌, List, [], ◌∷◌, Option}
use Rattle.felt64.specs.Field.{sum, difference}

abbrev pub Readings : Type 0
Readings = List (Option ℕ)

-- the readings of n cells, of which the first lies k cells from the base
abbrev pub cells_at : (ℕ → Option ℕ) → ℕ → ℕ → ℕ → Readings
cells_at m base k zero = []
cells_at m base k (suc n) = m (sum base k) ∷ cells_at m base (k + 1) n

-- the readings of the n cells that end right below this address
abbrev pub cells_below : (ℕ → Option ℕ) → ℕ → ℕ → Readings
cells_below m top n = cells_at m (difference top n) 0 n
