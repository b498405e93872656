-- How a dictionary stands in cells: as the log of its accesses.
use Rattle.std.specs.Prelude.{◌≡◌, ℕ, ◌*◌, ◌<◌, Option, Some, [], ◌∷◌, length}
use Rattle.felt64.specs.Field.{sum}
use Rattle.ro_machine.specs.Readings.{Readings, cells_at}
use Rattle.type_trees.specs.declared.num.Num.{Num}
use Rattle.value_trees.specs.Of.{bound}
use Rattle.value_trees.specs.Logs.{Access, Log, OpenLog}
use Rattle.cell_forms.specs.Stands.{most_elements}

-- the three cells of an access: its key, the word that it found and the word that it left, numbers of the dictionary's type
abbrev pub IsAccess : Num → Readings → Access → Type 0
IsAccess k cells a = (cells ≡ Some a.key ∷ Some a.previous ∷ Some a.new ∷ []) × (a.previous < bound k) × (a.new < bound k)

module _ (m : ℕ → Option ℕ) where
  -- the accesses stand from the start on, the first one first
  abbrev pub AccessesStand : Num → ℕ → Log → Type 0
  AccessesStand k start [] = Unit {0}
  AccessesStand k start (a ∷ log) = IsAccess k (cells_at m start (3 * length log) 3) a × AccessesStand k start log

  -- the accesses of a log stand between a start and an end
  abbrev pub IsLogBetween : Num → (start end : ℕ) → Log → Type 0
  IsLogBetween k start end log = (end ≡ sum start (3 * length log)) × (length log < most_elements) × AccessesStand k start log

  -- the cells are the start and the end of a log
  abbrev pub LogStands : Num → Readings → Log → Type 0
  LogStands k cells log = (start end : ℕ) × (cells ≡ Some start ∷ Some end ∷ []) × IsLogBetween k start end log

  -- such a log, behind which the open entry's key and the word that it found stand
  abbrev pub OpenLogStands : Num → Readings → OpenLog → Type 0
  OpenLogStands k cells e =
      (start end : ℕ) × (cells ≡ Some start ∷ Some end ∷ []) × IsLogBetween k start end e.log
      × (cells_at m end 0 2 ≡ Some e.key ∷ Some e.previous ∷ []) × (e.previous < bound k)
