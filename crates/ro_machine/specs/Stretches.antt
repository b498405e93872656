-- Cells with consecutive addresses, and memory as a list of such stretches in order of address.
use Rattle.std.specs.Prelude.{◌≡◌, ℕ, ◌+◌, ◌<◌, ◌≤◌, List, [], ◌∷◌, ◌++◌, length, drop, Some}
use Rattle.std.specs.List.{AllByRecursion, slice_get}
use Rattle.std.specs.FinMap.{from_entries, insert}
use Rattle.felt64.specs.Field.{modulus}
use Rattle.ro_machine.specs.Cells.{Cells}

-- the words of the cells from an address on, at least one
pub record Stretch : Type 0 where
  pub start : ℕ
  pub first : ℕ
  pub others : List ℕ

abbrev pub words_of : Stretch → List ℕ
words_of s = s.first ∷ s.others

-- the address behind the last cell
abbrev pub end_of : Stretch → ℕ
end_of s = s.start + 1 + length s.others

-- one cell more, behind the last one
abbrev pub with_next : Stretch → ℕ → Stretch
with_next s word = record { start = s.start; first = s.first; others = s.others ++ word ∷ [] }

-- the words as cells with consecutive addresses
abbrev pub numbered : ℕ → List ℕ → List (ℕ × ℕ)
numbered address [] = []
numbered address (word ∷ words) = (address, word) ∷ numbered (address + 1) words

-- the cells of the stretches, one stretch after another
abbrev pub cells_of : List Stretch → List (ℕ × ℕ)
cells_of [] = []
cells_of (s ∷ ss) = numbered s.start (words_of s) ++ cells_of ss

abbrev pub map_of : List Stretch → Cells
map_of ss = from_entries (cells_of ss)

-- Each stretch lies behind the one before, the first from this address on, and all addresses and words are in the field.
abbrev pub AreApart : ℕ → List Stretch → Type 0
AreApart least [] = least ≤ modulus
AreApart least (s ∷ ss) = (least ≤ s.start) × AllByRecursion (λ word. word < modulus) (words_of s) × AreApart (end_of s) ss

-- what a memory keeps: stretches that lie apart, and how many cells they have
pub record IsKept (ss : List Stretch) (count : ℕ) : Type 0 where
  pub apart : AreApart 0 ss
  pub counted : count ≡ length (cells_of ss)

-- at is how many of the stretches start at or below the address
pub record IsPlace (ss : List Stretch) (addr at : ℕ) : Type 0 where
  pub in_range : at ≤ length ss
  pub before : (j : ℕ) (s : Stretch) → j < at → slice_get ss j ≡ Some s → s.start ≤ addr
  pub after : (j : ℕ) (s : Stretch) → at ≤ j → slice_get ss j ≡ Some s → addr < s.start

-- these stretches have one cell more than those
pub record Adds (ss : List Stretch) (addr word : ℕ) (ts : List Stretch) : Type 0 where
  pub listed : map_of ts ≡ insert (map_of ss) addr word
  pub counted : length (cells_of ts) ≡ length (cells_of ss) + 1
  pub apart : AreApart 0 ts

-- the cells that are left after so many of the first stretch
abbrev pub cells_from : ℕ → List Stretch → List (ℕ × ℕ)
cells_from offset ss = drop offset (cells_of ss)

-- the offset is that of a cell of the first stretch, if there is one
abbrev pub IsInFirst : ℕ → List Stretch → Type 0
IsInFirst offset [] = offset ≡ 0
IsInFirst offset (s ∷ ss) = offset ≤ length s.others

-- where a walk over the cells is
pub record IsWalk (offset : ℕ) (ss : List Stretch) : Type 0 where
  pub apart : AreApart 0 ss
  pub inside : IsInFirst offset ss
