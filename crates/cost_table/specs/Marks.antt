-- What a libfunc asks of the expressions of an argument's cells.
use Rattle.std.specs.Prelude.{List, [], ◌∷◌, take, drop, Bool, true, false, IsTrue}
use Rattle.std.specs.List.{list_all}
use Rattle.type_trees.specs.Ty.{Ty, size}
use Rattle.casm_word.specs.declared.cell_expr.CellExpr.{CellExpr}
use Rattle.casm_word.specs.declared.cell_expr.CellExpr.TheVariants as expr
use Rattle.cell_terms.specs.Resolving.{argument}
use Rattle.cost_table.specs.declared.mark.Mark.{Mark}
use Rattle.cost_table.specs.declared.mark.Mark.TheVariants as marks

abbrev pub is_cell : CellExpr → Bool
is_cell (expr.Cell at) = true
is_cell _ = false

abbrev pub is_cell_or_number : CellExpr → Bool
is_cell_or_number (expr.Cell at) = true
is_cell_or_number (expr.Imm n) = true
is_cell_or_number _ = false

-- the expressions of an argument's cells are of the marked form
abbrev pub meets_mark : Mark → List CellExpr → Bool
meets_mark marks.Any cells = true
meets_mark marks.Cells cells = list_all is_cell cells
meets_mark marks.CellOrNumber cells = list_all is_cell_or_number cells
meets_mark marks.FirstCell cells = is_cell (argument cells 0)
meets_mark marks.SecondCell cells = is_cell (argument cells 1)

-- each argument's cells are of its marked form; where no mark is told, any form is
abbrev pub MeetMarks : List Mark → List Ty → List CellExpr → Type 0
MeetMarks [] tys cells = Unit {0}
MeetMarks (mark ∷ rest) [] cells = Unit {0}
MeetMarks (mark ∷ rest) (ty ∷ tys) cells = IsTrue (meets_mark mark (take (size ty) cells)) × MeetMarks rest tys (drop (size ty) cells)
