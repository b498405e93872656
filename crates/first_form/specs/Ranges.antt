-- The range-check cells that the test of a run walks over, from one address up to another.
use Rattle.std.specs.Prelude.{ℕ, ◌≡◌, ◌<◌, ◌≤◌, Option, Some}
use Rattle.felt64.specs.Field.{sum}
use Rattle.first_form.specs.Accepted.{range_limit, AllInRange}

-- each listed cell from the first address on, up to the end and without it, has a word below the limit
abbrev pub AllNarrow : (ℕ → Option ℕ) → ℕ → ℕ → Type 0
AllNarrow m first end = (at word : ℕ) → first ≤ at → at < end → m at ≡ Some word → word < range_limit

-- the first listed cell from the first address on, up to the last, that has no such word
pub record IsWide (m : ℕ → Option ℕ) (first last : ℕ) (cell : ℕ × ℕ) : Type 0 where
  pub at_or_above : first ≤ cell.0
  pub at_or_below : cell.0 ≤ last
  pub is_listed : m cell.0 ≡ Some cell.1
  pub beyond : range_limit ≤ cell.1
  pub narrow_before : AllNarrow m first cell.0

-- the first listed cell, of this many from rc on, that has no such word
pub record IsFirstWide (m : ℕ → Option ℕ) (rc count : ℕ) (cell : ℕ × ℕ) : Type 0 where
  pub distance : ℕ
  pub address : cell.0 ≡ sum rc distance
  pub within : distance < count
  pub is_listed : m cell.0 ≡ Some cell.1
  pub beyond : range_limit ≤ cell.1
  pub before : AllInRange m rc distance
