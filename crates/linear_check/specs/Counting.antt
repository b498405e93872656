-- Counts that stop at 2.
use Rattle.std.specs.Prelude.{◌≡◌, ◌<◌, ℕ, ◌+◌, min, List, length, Some}
use Rattle.std.specs.List.{slice_get}

-- the count of each number below n, with 2 for 2 and more
abbrev pub Counts : List ℕ → ℕ → (ℕ → ℕ) → Type 0
Counts counts n count = (length counts ≡ n) × ((t : ℕ) → t < n → slice_get counts t ≡ Some (min 2 (count t)))

-- the counts rise by these
abbrev pub CountsMore : List ℕ → List ℕ → (ℕ → ℕ) → Type 0
CountsMore old new more = (t c : ℕ) → slice_get old t ≡ Some (min 2 c) → slice_get new t ≡ Some (min 2 (c + more t))
