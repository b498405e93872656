-- The table of costs: the row of each family, and what each branch costs.
use Rattle.std.specs.Prelude.{ℕ, ◌+◌, ◌*◌}
use Rattle.libfunc_registry.specs.Fam.{Fam, control, gas, felts, integers, data_, arrays, dictionaries}
use Rattle.cost_table.specs.declared.costs.Cost.{Cost}
use Rattle.cost_table.specs.declared.row.Row.{Row}
use Rattle.cost_table.specs.Control.{control_row, control_holes}
use Rattle.cost_table.specs.Gas.{gas_row}
use Rattle.cost_table.specs.Felts.{felts_row}
use Rattle.cost_table.specs.Integers.{integers_row}
use Rattle.cost_table.specs.Data.{data_row}
use Rattle.cost_table.specs.Arrays.{arrays_row}
use Rattle.cost_table.specs.Dictionaries.{dictionaries_row, dictionaries_share_steps, dictionaries_share_checks}

-- the row of a branch, from 0
abbrev pub row_of : Fam → ℕ → Row
row_of (control fam) branch = control_row fam
row_of (gas fam) branch = gas_row fam branch
row_of (felts fam) branch = felts_row fam
row_of (integers fam) branch = integers_row fam branch
row_of (data_ fam) branch = data_row fam branch
row_of (arrays fam) branch = arrays_row fam branch
row_of (dictionaries fam) branch = dictionaries_row fam

-- the holes of any branch
abbrev pub holes : Fam → ℕ
holes (control fam) = control_holes fam
holes (gas fam) = 0
holes (felts fam) = 0
holes (integers fam) = 0
holes (data_ fam) = 0
holes (arrays fam) = 0
holes (dictionaries fam) = 0

-- the steps and the range checks of what comes later and is charged to any branch
abbrev pub share_steps : Fam → ℕ
share_steps (control fam) = 0
share_steps (gas fam) = 0
share_steps (felts fam) = 0
share_steps (integers fam) = 0
share_steps (data_ fam) = 0
share_steps (arrays fam) = 0
share_steps (dictionaries fam) = dictionaries_share_steps fam

abbrev pub share_checks : Fam → ℕ
share_checks (control fam) = 0
share_checks (gas fam) = 0
share_checks (felts fam) = 0
share_checks (integers fam) = 0
share_checks (data_ fam) = 0
share_checks (arrays fam) = 0
share_checks (dictionaries fam) = dictionaries_share_checks fam

-- what a branch costs, shares included
abbrev pub cost : Fam → ℕ → Cost
cost fam branch = record {
  steps = (row_of fam branch).steps + share_steps fam;
  checks = (row_of fam branch).checks + share_checks fam;
  holes = holes fam;
  ap = (row_of fam branch).ap;
}

-- the gas that a branch is charged
abbrev pub charge : Fam → ℕ → ℕ
charge fam branch = 100 * (cost fam branch).steps + 70 * (cost fam branch).checks + 10 * (cost fam branch).holes
