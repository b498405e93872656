-- Expressions for the words of cells.
use Rattle.std.specs.Prelude.{ℕ, ◌<◌, ℤ, pos, ◌-ℤ◌}
use Rattle.felt64.specs.Field.{modulus}
use Rattle.casm_word.specs.declared.instr.Reg.{Reg}
use Rattle.casm_word.specs.declared.instr.Reg.TheVariants as reg
use Rattle.casm_word.specs.declared.cell_expr.At.{At}
use Rattle.casm_word.specs.declared.cell_expr.Side.{Side}
use Rattle.casm_word.specs.declared.cell_expr.Side.TheVariants as side
use Rattle.casm_word.specs.declared.cell_expr.CellExpr.{CellExpr}
use Rattle.casm_word.specs.declared.cell_expr.CellExpr.TheVariants as expr

-- when ap moves up by n cells, an offset from ap falls by n
abbrev pub lowered_off : ℕ → Reg → ℤ → ℤ
lowered_off n reg.Ap off = off -ℤ pos n
lowered_off n reg.Fp off = off

-- the same cell, named after ap moved up by n
abbrev pub lowered_at : ℕ → At → At
lowered_at n at = record { base = at.base; off = lowered_off n at.base at.off }

abbrev pub lowered_side : ℕ → Side → Side
lowered_side n (side.Cell at) = side.Cell (lowered_at n at)
lowered_side n (side.Imm word) = side.Imm word

-- The same expression, named after ap moved up by n. The inner offset of a double cell counts from a word and stays.
abbrev pub lowered : ℕ → CellExpr → CellExpr
lowered n (expr.Cell at) = expr.Cell (lowered_at n at)
lowered n (expr.DoubleCell at inner) = expr.DoubleCell (lowered_at n at) inner
lowered n (expr.Imm word) = expr.Imm word
lowered n (expr.Sum at side) = expr.Sum (lowered_at n at) (lowered_side n side)
lowered n (expr.Diff at side) = expr.Diff (lowered_at n at) (lowered_side n side)
lowered n (expr.Product at side) = expr.Product (lowered_at n at) (lowered_side n side)

abbrev pub IsSideInField : Side → Type 0
IsSideInField (side.Cell at) = Unit {0}
IsSideInField (side.Imm word) = word < modulus

-- an immediate of the expression is below the field's order
abbrev pub IsExprInField : CellExpr → Type 0
IsExprInField (expr.Cell at) = Unit {0}
IsExprInField (expr.DoubleCell at inner) = Unit {0}
IsExprInField (expr.Imm word) = word < modulus
IsExprInField (expr.Sum at side) = IsSideInField side
IsExprInField (expr.Diff at side) = IsSideInField side
IsExprInField (expr.Product at side) = IsSideInField side
