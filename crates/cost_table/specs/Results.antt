-- The expressions of a branch's results, over those of the arguments.
use Rattle.std.specs.Prelude.{ℕ, List, [], map}
use Rattle.std.specs.List.{sum_by, slice_index_or}
use Rattle.type_trees.specs.Ty.{Ty, size}
use Rattle.libfunc_registry.specs.Fam.{Fam, control, gas, felts, integers, data_, arrays, dictionaries, gives}
use Rattle.casm_word.specs.declared.cell_expr.CellExpr.{CellExpr}
use Rattle.cell_terms.specs.declared.term.Term.{Term}
use Rattle.cell_terms.specs.Resolving.{resolve}
use Rattle.cost_table.specs.declared.costs.ApChange.{ApChange}
use Rattle.cost_table.specs.declared.costs.ApChange.TheVariants as changes
use Rattle.cost_table.specs.declared.row.Row.{Row}
use Rattle.cost_table.specs.Control.{control_terms}
use Rattle.cost_table.specs.Gas.{gas_terms}
use Rattle.cost_table.specs.Felts.{felts_terms}
use Rattle.cost_table.specs.Integers.{integers_terms}
use Rattle.cost_table.specs.Data.{data_terms}
use Rattle.cost_table.specs.Arrays.{arrays_terms}
use Rattle.cost_table.specs.Dictionaries.{dictionaries_terms}
use Rattle.cost_table.specs.Costs.{row_of}

-- how many cells values of these types take together
abbrev pub cells_of : List Ty → ℕ
cells_of tys = sum_by size tys

-- the types of a branch's results
abbrev pub branch_types : Fam → ℕ → List Ty
branch_types fam branch = slice_index_or (gives fam) branch []

-- the terms of the results' cells, of which there are so many, in order
abbrev pub terms_of : (args : List CellExpr) → (amount : ℕ) → Row → (cells : ℕ) → Fam → ℕ → List Term
terms_of args amount r cells (control fam) branch = control_terms amount fam
terms_of args amount r cells (gas fam) branch = gas_terms r cells fam branch
terms_of args amount r cells (felts fam) branch = felts_terms args fam branch
terms_of args amount r cells (integers fam) branch = integers_terms r args fam branch
terms_of args amount r cells (data_ fam) branch = data_terms r fam branch
terms_of args amount r cells (arrays fam) branch = arrays_terms r fam branch
terms_of args amount r cells (dictionaries fam) branch = dictionaries_terms r cells fam

-- the same, with the row and the cells of the branch
abbrev pub result_terms : (args : List CellExpr) → (amount : ℕ) → Fam → ℕ → List Term
result_terms args amount fam branch = terms_of args amount (row_of fam branch) (cells_of (branch_types fam branch)) fam branch

-- How far ap has moved where the results are named. Where nobody knows, the results are new cells, from ap as it was on, and
-- the last ones below ap.
abbrev pub moved : ApChange → (cells : ℕ) → ℕ
moved (changes.Known n) cells = n
moved changes.Unknown cells = cells

-- how far ap has moved where the branch's results are named
abbrev pub moved_by : Fam → ℕ → ℕ
moved_by fam branch = moved (row_of fam branch).ap (cells_of (branch_types fam branch))

-- the expressions of the results' cells, in order, as they are named after the branch
abbrev pub results : (args : List CellExpr) → (amount : ℕ) → Fam → ℕ → List CellExpr
results args amount fam branch = map (resolve (moved_by fam branch) args) (result_terms args amount fam branch)
