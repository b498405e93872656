-- Integers of 8, 16 and 32 bits.
use Rattle.std.specs.Prelude.{ℕ, List, [], ◌∷◌}
use Rattle.libfunc_registry.specs.Integers.{IntegersFam, to_felt64, try_from_felt64, overflowing_add, overflowing_sub, wide_mul, split_mul, safe_divmod, eq, upcast, downcast}
use Rattle.casm_word.specs.declared.cell_expr.CellExpr.{CellExpr}
use Rattle.cell_terms.specs.declared.term.Slot.TheVariants as slots
use Rattle.cell_terms.specs.declared.term.Term.{Term}
use Rattle.cell_terms.specs.declared.term.Term.TheVariants as terms
use Rattle.cost_table.specs.declared.row.Row.{Row}
use Rattle.cost_table.specs.declared.mark.Mark.{Mark}
use Rattle.cost_table.specs.declared.mark.Mark.TheVariants as marks
use Rattle.cost_table.specs.Rows.{row, free, by_branch}
use Rattle.cost_table.specs.Terms.{whole, operand, last, pointer}

-- steps, range checks and the change of ap
abbrev pub integers_row : IntegersFam → ℕ → Row
integers_row (to_felt64 w) branch = free
integers_row (try_from_felt64 w) branch = by_branch branch (row 6 2 6) (row 12 3 6)
integers_row (overflowing_add w) branch = row 6 1 3
integers_row (overflowing_sub w) branch = by_branch branch (row 5 1 5) (row 8 1 5)
integers_row (wide_mul w) branch = free
integers_row split_mul branch = row 8 3 5
integers_row (safe_divmod w) branch = row 8 3 5
integers_row (eq w) branch = row 3 0 1
integers_row (upcast a b) branch = free
integers_row (downcast a b) branch = row 5 1 2

-- the cells of the results
abbrev pub integers_terms : Row → List CellExpr → IntegersFam → ℕ → List Term
integers_terms r args (to_felt64 w) branch = whole 0 ∷ []
integers_terms r args (try_from_felt64 w) branch = by_branch branch (pointer r ∷ whole 1 ∷ []) (pointer r ∷ [])
integers_terms r args (overflowing_add w) branch = pointer r ∷ last r 1 ∷ []
integers_terms r args (overflowing_sub w) branch = pointer r ∷ last r 1 ∷ []
integers_terms r args (wide_mul w) branch = terms.Mul (slots.Arg 0) (operand args 1) ∷ []
integers_terms r args split_mul branch = pointer r ∷ last r 2 ∷ last r 1 ∷ []
integers_terms r args (safe_divmod w) branch = pointer r ∷ last r 2 ∷ last r 1 ∷ []
integers_terms r args (eq w) branch = []
integers_terms r args (upcast a b) branch = whole 0 ∷ []
integers_terms r args (downcast a b) branch = by_branch branch (pointer r ∷ whole 1 ∷ []) (pointer r ∷ [])

-- what is asked of the expressions of the arguments
abbrev pub integers_marks : IntegersFam → List Mark
integers_marks (to_felt64 w) = []
integers_marks (try_from_felt64 w) = marks.Cells ∷ marks.Cells ∷ []
integers_marks (overflowing_add w) = marks.Cells ∷ marks.Cells ∷ marks.Cells ∷ []
integers_marks (overflowing_sub w) = marks.Cells ∷ marks.Cells ∷ marks.Cells ∷ []
integers_marks (wide_mul w) = marks.Cells ∷ marks.CellOrNumber ∷ []
integers_marks split_mul = marks.Cells ∷ marks.Cells ∷ marks.Cells ∷ []
integers_marks (safe_divmod w) = marks.Cells ∷ marks.Cells ∷ marks.Cells ∷ []
integers_marks (eq w) = marks.Cells ∷ marks.Cells ∷ []
integers_marks (upcast a b) = []
integers_marks (downcast a b) = marks.Cells ∷ marks.Cells ∷ []
