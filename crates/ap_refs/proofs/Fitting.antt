-- Offsets of what is held have 64 bits, also once ap has moved.
use Rattle.std.proofs.Common.{ℕ, ◌+◌, ◌≤◌, ◌^◌, ℤ, arith}
use Rattle.std.proofs.lemmas.Int.{ints}
use Rattle.casm_word.specs.declared.instr.Reg.TheVariants as reg
use Rattle.casm_word.specs.declared.cell_expr.At.{At}
use Rattle.casm_word.specs.declared.cell_expr.Side.{Side}
use Rattle.casm_word.specs.declared.cell_expr.Side.TheVariants as side
use Rattle.casm_word.specs.declared.cell_expr.CellExpr.{CellExpr}
use Rattle.casm_word.specs.declared.cell_expr.CellExpr.TheVariants as expr
use Rattle.casm_word.specs.Expressions.{lowered_at, lowered_side, lowered}
use Rattle.cell_terms.specs.Fitting.{AtFits, SideFits, ExprFits}
use Rattle.ap_refs.specs.Bounds.{IsWithinAt, IsWithinSide, IsWithin, most_moved}
use Rattle.ap_refs.specs.Prepared.{widest}

base_fits : (d : ℕ) (base : _) (off : ℤ) → d ≤ most_moved → IsWithinAt widest (record { base = base; off = off }) → AtFits (lowered_at d (record { base = base; off = off }))
base_fits d reg.Ap off few within = let a = within.least in let b = within.most in omega (arith, ints)
base_fits d reg.Fp off few within = let a = within.least in let b = within.most in omega (arith, ints)

at_fits : (d : ℕ) (at : At) → d ≤ most_moved → IsWithinAt widest at → AtFits (lowered_at d at)
at_fits d at few within = base_fits d at.base at.off few within

side_fits : (d : ℕ) (s : Side) → d ≤ most_moved → IsWithinSide widest s → SideFits (lowered_side d s)
side_fits d (side.Cell at) few within = at_fits d at few within
side_fits d (side.Imm n) few within = tt

pub within_fits : (d : ℕ) (e : CellExpr) → d ≤ most_moved → IsWithin widest e → ExprFits (lowered d e)
within_fits d (expr.Cell at) few within = at_fits d at few within
within_fits d (expr.DoubleCell at inner) few within = at_fits d at few within
within_fits d (expr.Imm n) few within = tt
within_fits d (expr.Sum at s) few within = (at_fits d at few within.0, side_fits d s few within.1)
within_fits d (expr.Diff at s) few within = (at_fits d at few within.0, side_fits d s few within.1)
within_fits d (expr.Product at s) few within = (at_fits d at few within.0, side_fits d s few within.1)
