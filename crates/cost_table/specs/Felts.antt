-- Felts and constants.
use Rattle.std.specs.Prelude.{ℕ, List, [], ◌∷◌}
use Rattle.libfunc_registry.specs.Felts.{FeltsFam, const, felt64_add, felt64_sub, felt64_mul, is_zero, unwrap_non_zero}
use Rattle.casm_word.specs.declared.cell_expr.CellExpr.{CellExpr}
use Rattle.cell_terms.specs.declared.term.Slot.TheVariants as slots
use Rattle.cell_terms.specs.declared.term.Term.{Term}
use Rattle.cell_terms.specs.declared.term.Term.TheVariants as terms
use Rattle.cost_table.specs.declared.row.Row.{Row}
use Rattle.cost_table.specs.declared.mark.Mark.{Mark}
use Rattle.cost_table.specs.declared.mark.Mark.TheVariants as marks
use Rattle.cost_table.specs.Rows.{row, free, by_branch}
use Rattle.cost_table.specs.Terms.{whole, word, operand}

-- steps, range checks and the change of ap
abbrev pub felts_row : FeltsFam → Row
felts_row (const num n) = free
felts_row felt64_add = free
felts_row felt64_sub = free
felts_row felt64_mul = free
felts_row (is_zero num) = row 2 0 0
felts_row (unwrap_non_zero num) = free

-- the cells of the results
abbrev pub felts_terms : List CellExpr → FeltsFam → ℕ → List Term
felts_terms args (const num n) branch = word n ∷ []
felts_terms args felt64_add branch = terms.Add (slots.Arg 0) (operand args 1) ∷ []
felts_terms args felt64_sub branch = terms.Sub (slots.Arg 0) (operand args 1) ∷ []
felts_terms args felt64_mul branch = terms.Mul (slots.Arg 0) (operand args 1) ∷ []
felts_terms args (is_zero num) branch = by_branch branch [] (whole 0 ∷ [])
felts_terms args (unwrap_non_zero num) branch = whole 0 ∷ []

-- what is asked of the expressions of the arguments
abbrev pub felts_marks : FeltsFam → List Mark
felts_marks (const num n) = []
felts_marks felt64_add = marks.Cells ∷ marks.CellOrNumber ∷ []
felts_marks felt64_sub = marks.Cells ∷ marks.CellOrNumber ∷ []
felts_marks felt64_mul = marks.Cells ∷ marks.CellOrNumber ∷ []
felts_marks (is_zero num) = marks.Cells ∷ []
felts_marks (unwrap_non_zero num) = []
