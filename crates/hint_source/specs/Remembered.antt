-- What the honest source remembers, and the views that the sources of this crate show.
use Rattle.std.specs.Prelude.{ℕ, true, false, refl}
use Rattle.std.specs.Coded.{Coded, code_by, coded×, coded_ℕ, coded_list}
use Rattle.std.specs.FinMap.{code, empty}
use Rattle.hint_source.specs.Honest.{Logs}
use Rattle.hint_source.specs.View.{View, Taught}

-- the view of a source that answers what it was taught alone
abbrev pub overlay_view : Taught → View
overlay_view words = record { honest = false; taught = words; logs = empty; fresh = 0 }

-- What the honest source remembers of a run: the logs that were begun, and how many Fresh queries it answered.
pub record Remembered : Type 0 where
  pub logs : Logs
  pub fresh : ℕ

-- before any query and any note
abbrev pub nothing_remembered : Remembered
nothing_remembered = record { logs = empty; fresh = 0 }

-- the view of the honest source
abbrev pub honest_view : Remembered → View
honest_view remembered = record { honest = true; taught = empty; logs = remembered.logs; fresh = remembered.fresh }

-- it is stored as the pair of its parts
abbrev pub remembered_code : Coded Remembered
remembered_code = code_by (Logs × ℕ) (coded× (code coded_ℕ (coded_list (coded× coded_ℕ coded_ℕ))) coded_ℕ)
    (λ remembered. (remembered.logs, remembered.fresh)) (λ parts. record { logs = parts.0; fresh = parts.1 }) (λ _. refl)
