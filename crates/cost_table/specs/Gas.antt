-- Calls and gas.
use Rattle.std.specs.Prelude.{ℕ, List, [], ◌∷◌}
use Rattle.libfunc_registry.specs.Gas.{GasFam, function_call, withdraw_gas}
use Rattle.cell_terms.specs.declared.term.Term.{Term}
use Rattle.cost_table.specs.declared.row.Row.{Row}
use Rattle.cost_table.specs.declared.mark.Mark.{Mark}
use Rattle.cost_table.specs.declared.mark.Mark.TheVariants as marks
use Rattle.cost_table.specs.Rows.{row, row_unknown, by_branch}
use Rattle.cost_table.specs.Terms.{whole, laid, last, pointer}

-- steps, range checks and the change of ap
abbrev pub gas_row : GasFam → ℕ → Row
gas_row (function_call f params results) branch = row_unknown 1 0
gas_row withdraw_gas branch = by_branch branch (row 5 1 4) (row 7 1 4)

-- the cells of the results, of which there are so many
abbrev pub gas_terms : Row → (cells : ℕ) → GasFam → ℕ → List Term
gas_terms r cells (function_call f params results) branch = laid cells
gas_terms r cells withdraw_gas branch = by_branch branch (pointer r ∷ last r 1 ∷ []) (pointer r ∷ whole 1 ∷ [])

-- what is asked of the expressions of the arguments
abbrev pub gas_marks : GasFam → List Mark
gas_marks (function_call f params results) = []
gas_marks withdraw_gas = marks.Cells ∷ marks.Cells ∷ []
