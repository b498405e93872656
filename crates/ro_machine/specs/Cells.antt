-- Cells as a finite map from addresses to words.
use Rattle.std.specs.Prelude.{◌≡◌, ℕ, ◌<◌, ◌≤◌, Some, None}
use Rattle.std.specs.Ordering.{nat_cmp}
use Rattle.std.specs.FinMap.{FinMap, get}

abbrev pub Cells : Type 0
Cells = FinMap nat_cmp ℕ

-- this is the listed cell of least address at or above addr
pub record IsFirstFrom (cells : Cells) (addr : ℕ) (cell : ℕ × ℕ) : Type 0 where
  pub at_or_above : addr ≤ cell.0
  pub is_listed : get cells cell.0 ≡ Some cell.1
  pub none_before : (b : ℕ) → addr ≤ b → b < cell.0 → get cells b ≡ None

-- no cell at or above addr is listed
abbrev pub NoneFrom : Cells → ℕ → Type 0
NoneFrom cells addr = (b : ℕ) → addr ≤ b → get cells b ≡ None
