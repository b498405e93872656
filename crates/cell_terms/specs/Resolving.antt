-- The expression that a term is, over the expressions of arguments, once ap has moved.
use Rattle.std.specs.Prelude.{ℕ, pos, ◌-ℤ◌, List}
use Rattle.std.specs.List.{slice_index_or}
use Rattle.casm_word.specs.declared.instr.Reg.TheVariants as reg
use Rattle.casm_word.specs.declared.cell_expr.At.{At}
use Rattle.casm_word.specs.declared.cell_expr.Side.{Side}
use Rattle.casm_word.specs.declared.cell_expr.Side.TheVariants as side
use Rattle.casm_word.specs.declared.cell_expr.CellExpr.{CellExpr}
use Rattle.casm_word.specs.declared.cell_expr.CellExpr.TheVariants as expr
use Rattle.casm_word.specs.Expressions.{lowered_at, lowered}
use Rattle.cell_terms.specs.declared.term.Slot.{Slot}
use Rattle.cell_terms.specs.declared.term.Slot.TheVariants as slots
use Rattle.cell_terms.specs.declared.term.Second.{Second}
use Rattle.cell_terms.specs.declared.term.Second.TheVariants as seconds
use Rattle.cell_terms.specs.declared.term.Term.{Term}
use Rattle.cell_terms.specs.declared.term.Term.TheVariants as terms

-- the cell at ap
abbrev pub at_ap : At
at_ap = record { base = reg.Ap; off = pos 0 }

-- the cell that an expression is; of an expression that is no cell, the cell at ap
abbrev pub at_of : CellExpr → At
at_of (expr.Cell at) = at
at_of (expr.DoubleCell at inner) = at_ap
at_of (expr.Imm n) = at_ap
at_of (expr.Sum at s) = at_ap
at_of (expr.Diff at s) = at_ap
at_of (expr.Product at s) = at_ap

-- the expression of this number
abbrev pub argument : List CellExpr → ℕ → CellExpr
argument args i = slice_index_or args i (expr.Imm 0)

-- where a named cell is found once ap has moved d cells
abbrev pub place : ℕ → List CellExpr → Slot → At
place d args (slots.Own k) = record { base = reg.Ap; off = pos k -ℤ pos d }
place d args (slots.Arg i) = lowered_at d (at_of (argument args i))
place d args (slots.Frame k) = record { base = reg.Fp; off = pos k }

abbrev pub side_of : ℕ → List CellExpr → Second → Side
side_of d args (seconds.Slot n) = side.Cell (place d args n)
side_of d args (seconds.Number k) = side.Imm k

-- the expression of a term once ap has moved d cells
abbrev pub resolve : ℕ → List CellExpr → Term → CellExpr
resolve d args (terms.Whole i) = lowered d (argument args i)
resolve d args (terms.Cell n) = expr.Cell (place d args n)
resolve d args (terms.Behind n k) = expr.DoubleCell (place d args n) (pos k)
resolve d args (terms.Word k) = expr.Imm k
resolve d args (terms.Add n o) = expr.Sum (place d args n) (side_of d args o)
resolve d args (terms.Sub n o) = expr.Diff (place d args n) (side_of d args o)
resolve d args (terms.Mul n o) = expr.Product (place d args n) (side_of d args o)
