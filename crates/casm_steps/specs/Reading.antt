-- The word that an expression for a cell stands for, read off a memory: None where a cell that it names isn't listed.
use Rattle.std.specs.Prelude.{ℕ, ℤ, ◌≤ℤ◌, List, [], ◌∷◌, Option, Some, None, if◌then◌else◌}
use Rattle.felt64.specs.Field.{modulus, sum, difference, product}
use Rattle.casm_word.specs.declared.instr.Reg.{Reg}
use Rattle.casm_word.specs.declared.cell_expr.At.{At}
use Rattle.casm_word.specs.declared.cell_expr.Side.{Side}
use Rattle.casm_word.specs.declared.cell_expr.Side.TheVariants as side
use Rattle.casm_word.specs.declared.cell_expr.CellExpr.{CellExpr}
use Rattle.casm_word.specs.declared.cell_expr.CellExpr.TheVariants as expr
use Rattle.casm_word.specs.Encoding.{is_fp}
use Rattle.casm_word.specs.Expressions.{lowered_at}
use Rattle.casm_word.specs.Offset.{minus}
use Rattle.ro_machine.specs.Readings.{Readings}
use Rattle.ro_machine.specs.Step.{moved}

-- what the register holds
abbrev pub register : Reg → ℕ → ℕ → ℕ
register reg ap fp = if is_fp reg then fp else ap

-- the address of a cell
abbrev pub address : ℕ → ℕ → At → ℕ
address ap fp at = moved (register at.base ap fp) at.off

-- two words joined, where both are there
abbrev pub both : (ℕ → ℕ → ℕ) → Option ℕ → Option ℕ → Option ℕ
both f None b = None
both f (Some a) None = None
both f (Some a) (Some b) = Some (f a b)

-- the word an offset from where a word points
abbrev pub behind : (ℕ → Option ℕ) → Option ℕ → ℤ → Option ℕ
behind m None inner = None
behind m (Some w) inner = m (moved w inner)

-- the word of an operand, where each cell has the address that it is given here
abbrev pub side_by : (ℕ → Option ℕ) → (At → ℕ) → Side → Option ℕ
side_by m place (side.Cell at) = m (place at)
side_by m place (side.Imm n) = Some n

-- the word of an expression, where each cell has the address that it is given here
abbrev pub reading_by : (ℕ → Option ℕ) → (At → ℕ) → CellExpr → Option ℕ
reading_by m place (expr.Cell at) = m (place at)
reading_by m place (expr.DoubleCell at inner) = behind m (m (place at)) inner
reading_by m place (expr.Imm n) = Some n
reading_by m place (expr.Sum at s) = both sum (m (place at)) (side_by m place s)
reading_by m place (expr.Diff at s) = both difference (m (place at)) (side_by m place s)
reading_by m place (expr.Product at s) = both product (m (place at)) (side_by m place s)

-- the word of an expression at ap and fp
abbrev pub reading : (ℕ → Option ℕ) → ℕ → ℕ → CellExpr → Option ℕ
reading m ap fp e = reading_by m (address ap fp) e

-- the words of expressions, in their order
abbrev pub readings : (ℕ → Option ℕ) → ℕ → ℕ → List CellExpr → Readings
readings m ap fp [] = []
readings m ap fp (e ∷ es) = reading m ap fp e ∷ readings m ap fp es

-- the cell's offset isn't below -P, by which addresses are the same again
abbrev pub IsAtAbove : At → Type 0
IsAtAbove at = minus modulus ≤ℤ at.off

abbrev pub IsSideAbove : ℕ → Side → Type 0
IsSideAbove n (side.Cell at) = IsAtAbove (lowered_at n at)
IsSideAbove n (side.Imm word) = Unit {0}

-- no offset of the expression is below -P where it is named after ap moved up by n
abbrev pub IsExprAbove : ℕ → CellExpr → Type 0
IsExprAbove n (expr.Cell at) = IsAtAbove (lowered_at n at)
IsExprAbove n (expr.DoubleCell at inner) = IsAtAbove (lowered_at n at)
IsExprAbove n (expr.Imm word) = Unit {0}
IsExprAbove n (expr.Sum at s) = IsAtAbove (lowered_at n at) × IsSideAbove n s
IsExprAbove n (expr.Diff at s) = IsAtAbove (lowered_at n at) × IsSideAbove n s
IsExprAbove n (expr.Product at s) = IsAtAbove (lowered_at n at) × IsSideAbove n s
