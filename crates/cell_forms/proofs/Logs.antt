-- Logs in cells: their cells, and that they stand still where the memory grows.
use Rattle.std.proofs.Common.{◌≡◌, ℕ, ◌*◌, Option, [], ◌∷◌, length, ap}
use Rattle.ro_machine.specs.Readings.{Readings, cells_at}
use Rattle.ro_machine.specs.Extends.{Extends}
use Rattle.type_trees.specs.declared.num.Num.{Num}
use Rattle.value_trees.specs.Logs.{Log, OpenLog}
use Rattle.cell_forms.specs.Growing.{Keeps, KeepEach}
use Rattle.cell_forms.specs.LogStands.{AccessesStand, IsLogBetween, LogStands, OpenLogStands}
use Rattle.cell_forms.specs.Standing.{Padding, any, listed, zeros, Asked}
use Rattle.cell_forms.proofs.Growth.{kept_two, kept_three, keep_cells}

pub log_long : (m : ℕ → Option ℕ) (k : Num) (cells : Readings) (log : Log) → LogStands m k cells log → length cells ≡ 2
log_long m k cells log h = ap length h.2

pub open_log_long : (m : ℕ → Option ℕ) (k : Num) (cells : Readings) (e : OpenLog) → OpenLogStands m k cells e → length cells ≡ 2
open_log_long m k cells e h = ap length h.2

-- what is asked of padding is asked of what keeps its word
pub asked_kept : (padding : Padding) (o p : Option ℕ) → Keeps o p → Asked padding o → Asked padding p
asked_kept any o p keeps h = tt
asked_kept listed o p keeps h = (h.0, keeps h.0 h.1)
asked_kept zeros o p keeps h = keeps 0 h

module _ (m more : ℕ → Option ℕ) (grows : Extends m more) where
  accesses_kept : (k : Num) (start : ℕ) (log : Log) → AccessesStand m k start log → AccessesStand more k start log
  accesses_kept k start [] h = tt
  accesses_kept k start (a ∷ log) h = (
    (
      kept_three a.key a.previous a.new (cells_at m start (3 * length log) 3) (cells_at more start (3 * length log) 3) h.0.0
          (keep_cells m more grows start (3 * length log) 3),
      h.0.1,
      h.0.2,
    ),
    accesses_kept k start log h.1,
  )

  log_between_kept : (k : Num) (start end : ℕ) (log : Log) → IsLogBetween m k start end log → IsLogBetween more k start end log
  log_between_kept k start end log h = (h.0, h.1, accesses_kept k start log h.2)

  pub log_kept : (k : Num) (cells grown : Readings) (log : Log) → KeepEach cells grown → LogStands m k cells log → LogStands more k grown log
  log_kept k cells grown log keeps h = (h.0, h.1, kept_two h.0 h.1 cells grown h.2 keeps, log_between_kept k h.0 h.1 log h.3)

  pub open_log_kept : (k : Num) (cells grown : Readings) (e : OpenLog) → KeepEach cells grown → OpenLogStands m k cells e → OpenLogStands more k grown e
  open_log_kept k cells grown e keeps h = (
    h.0,
    h.1,
    kept_two h.0 h.1 cells grown h.2 keeps,
    log_between_kept k h.0 h.1 e.log h.3,
    kept_two e.key e.previous (cells_at m h.1 0 2) (cells_at more h.1 0 2) h.4 (keep_cells m more grows h.1 0 2),
    h.5,
  )
