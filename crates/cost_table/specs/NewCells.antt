-- The new cells of a branch: they are the last ones below ap, in the order of the results.
use Rattle.std.specs.Prelude.{ℕ, ◌≡◌, ◌≤◌, ◌-◌, ◌==◌, if◌then◌else◌, List, [], ◌∷◌, Option, Some, None}
use Rattle.std.specs.List.{range_with_len}
use Rattle.cell_terms.specs.declared.term.Slot.TheVariants as slots
use Rattle.cell_terms.specs.declared.term.Term.{Term}
use Rattle.cell_terms.specs.declared.term.Term.TheVariants as terms

abbrev pub own_cell : Term → Option ℕ
own_cell (terms.Cell (slots.Own k)) = Some k
own_cell _ = None

abbrev pub with_cell : Option ℕ → List ℕ → List ℕ
with_cell (Some k) ks = k ∷ ks
with_cell None ks = ks

-- the new cells that terms name, in order
abbrev pub own_cells : List Term → List ℕ
own_cells [] = []
own_cells (t ∷ ts) = with_cell (own_cell t) (own_cells ts)

abbrev pub once_behind : ℕ → List ℕ → List ℕ
once_behind k [] = []
once_behind k (j ∷ js) = if j == k then once_behind k js else (j ∷ once_behind j js)

-- the same list, where what is named several times in a row stands once
abbrev pub once : List ℕ → List ℕ
once [] = []
once (k ∷ ks) = k ∷ once_behind k ks

-- the new cells that terms name are the last ones of so many
pub record AreLast (change : ℕ) (ts : List Term) : Type 0 where
  pub count : ℕ
  pub within : count ≤ change
  pub last : once (own_cells ts) ≡ range_with_len (change - count) count
