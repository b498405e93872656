-- Expressions that are named anew as ap moves.
use Rattle.std.proofs.Common.{◌≡◌, ℕ, ◌+◌, ℤ, refl, ap, arith}
use Rattle.std.proofs.lemmas.Int.{ints}
use Rattle.casm_word.specs.declared.instr.Reg.{Reg}
use Rattle.casm_word.specs.declared.instr.Reg.TheVariants as reg
use Rattle.casm_word.specs.declared.cell_expr.At.{At}
use Rattle.casm_word.specs.declared.cell_expr.Side.{Side}
use Rattle.casm_word.specs.declared.cell_expr.Side.TheVariants as side
use Rattle.casm_word.specs.declared.cell_expr.CellExpr.{CellExpr}
use Rattle.casm_word.specs.declared.cell_expr.CellExpr.TheVariants as expr
use Rattle.casm_word.specs.Expressions.{lowered_off, lowered_at, lowered_side, lowered}

off_twice : (m n : ℕ) (base : Reg) (off : ℤ) → lowered_off n base (lowered_off m base off) ≡ lowered_off (m + n) base off
off_twice m n reg.Ap off = omega (arith, ints)
off_twice m n reg.Fp off = refl

at_twice : (m n : ℕ) (at : At) → lowered_at n (lowered_at m at) ≡ lowered_at (m + n) at
at_twice m n at = ap (λ off. record { base = at.base; off = off }) (off_twice m n at.base at.off)

side_twice : (m n : ℕ) (s : Side) → lowered_side n (lowered_side m s) ≡ lowered_side (m + n) s
side_twice m n (side.Cell at) = ap side.Cell (at_twice m n at)
side_twice m n (side.Imm word) = refl

pub lowered_twice : (m n : ℕ) (e : CellExpr) → lowered n (lowered m e) ≡ lowered (m + n) e
lowered_twice m n (expr.Cell at) = ap expr.Cell (at_twice m n at)
lowered_twice m n (expr.DoubleCell at inner) = ap (λ at. expr.DoubleCell at inner) (at_twice m n at)
lowered_twice m n (expr.Imm word) = refl
lowered_twice m n (expr.Sum at s) = let a = at_twice m n at in let b = side_twice m n s in cc
lowered_twice m n (expr.Diff at s) = let a = at_twice m n at in let b = side_twice m n s in cc
lowered_twice m n (expr.Product at s) = let a = at_twice m n at in let b = side_twice m n s in cc
