-- Offsets of results have 64 bits.
use Rattle.std.proofs.Common.{ℕ, zero, suc, ◌<◌, ◌^◌, ℤ, List, [], ◌∷◌, arith}
use Rattle.std.proofs.lemmas.Int.{ints}
use Rattle.std.specs.List.{All}
use Rattle.std.proofs.lemmas.List.Elements.{All-head, All-tail}
use Rattle.casm_word.specs.declared.instr.Reg.TheVariants as reg
use Rattle.casm_word.specs.declared.cell_expr.At.{At}
use Rattle.casm_word.specs.declared.cell_expr.Side.{Side}
use Rattle.casm_word.specs.declared.cell_expr.Side.TheVariants as side
use Rattle.casm_word.specs.declared.cell_expr.CellExpr.{CellExpr}
use Rattle.casm_word.specs.declared.cell_expr.CellExpr.TheVariants as expr
use Rattle.casm_word.specs.Expressions.{lowered_at, lowered_side, lowered}
use Rattle.cell_terms.specs.declared.term.Slot.{Slot}
use Rattle.cell_terms.specs.declared.term.Slot.TheVariants as slots
use Rattle.cell_terms.specs.declared.term.Second.{Second}
use Rattle.cell_terms.specs.declared.term.Second.TheVariants as seconds
use Rattle.cell_terms.specs.declared.term.Term.{Term}
use Rattle.cell_terms.specs.declared.term.Term.TheVariants as terms
use Rattle.cell_terms.specs.Resolving.{at_of, argument}
use Rattle.cell_terms.specs.Fitting.{AtFits, SideFits, ExprFits, SlotFits, SecondFits, TermFits}
use Rattle.cost_table.specs.Fits.{IsClose, IsCloseSide, IsCloseExpr}
use Rattle.cost_table.specs.Parts.{IsSmallSlot, IsSmallSecond, IsSmall}

base_fits : (d : ℕ) (base : _) (off : ℤ) → d < 2 ^ 62 → IsClose (record { base = base; off = off }) → AtFits (lowered_at d (record { base = base; off = off }))
base_fits d reg.Ap off few close = let a = close.least in let b = close.most in omega (arith, ints)
base_fits d reg.Fp off few close = let a = close.least in let b = close.most in omega (arith, ints)

at_fits : (d : ℕ) (at : At) → d < 2 ^ 62 → IsClose at → AtFits (lowered_at d at)
at_fits d at few close = base_fits d at.base at.off few close

side_fits : (d : ℕ) (s : Side) → d < 2 ^ 62 → IsCloseSide s → SideFits (lowered_side d s)
side_fits d (side.Cell at) few close = at_fits d at few close
side_fits d (side.Imm n) few close = tt

pub expr_fits : (d : ℕ) (e : CellExpr) → d < 2 ^ 62 → IsCloseExpr e → ExprFits (lowered d e)
expr_fits d (expr.Cell at) few close = at_fits d at few close
expr_fits d (expr.DoubleCell at inner) few close = at_fits d at few close
expr_fits d (expr.Imm n) few close = tt
expr_fits d (expr.Sum at s) few close = (at_fits d at few close.0, side_fits d s few close.1)
expr_fits d (expr.Diff at s) few close = (at_fits d at few close.0, side_fits d s few close.1)
expr_fits d (expr.Product at s) few close = (at_fits d at few close.0, side_fits d s few close.1)

argument_close : (args : List CellExpr) (i : ℕ) → All IsCloseExpr args → IsCloseExpr (argument args i)
argument_close [] i close = tt
argument_close (e ∷ args) zero close = All-head IsCloseExpr e args close
argument_close (e ∷ args) (suc i) close = argument_close args i (All-tail IsCloseExpr e args close)

at_ap_fits : (d : ℕ) → d < 2 ^ 62 → AtFits (lowered_at d (at_of (expr.Imm 0)))
at_ap_fits d few = omega (arith, ints)

cell_fits : (d : ℕ) (e : CellExpr) → d < 2 ^ 62 → IsCloseExpr e → AtFits (lowered_at d (at_of e))
cell_fits d (expr.Cell at) few close = at_fits d at few close
cell_fits d (expr.DoubleCell at inner) few close = at_ap_fits d few
cell_fits d (expr.Imm n) few close = at_ap_fits d few
cell_fits d (expr.Sum at s) few close = at_ap_fits d few
cell_fits d (expr.Diff at s) few close = at_ap_fits d few
cell_fits d (expr.Product at s) few close = at_ap_fits d few

slot_fits : (d : ℕ) (args : List CellExpr) (n : Slot) → d < 2 ^ 62 → All IsCloseExpr args → IsSmallSlot n → SlotFits d args n
slot_fits d args (slots.Own k) few close small = omega arith
slot_fits d args (slots.Arg i) few close small = cell_fits d (argument args i) few (argument_close args i close)
slot_fits d args (slots.Frame k) few close small = omega arith

second_fits : (d : ℕ) (args : List CellExpr) (o : Second) → d < 2 ^ 62 → All IsCloseExpr args → IsSmallSecond o → SecondFits d args o
second_fits d args (seconds.Slot n) few close small = slot_fits d args n few close small
second_fits d args (seconds.Number k) few close small = tt

pub term_fits : (d : ℕ) (args : List CellExpr) (t : Term) → d < 2 ^ 62 → All IsCloseExpr args → IsSmall t → TermFits d args t
term_fits d args (terms.Whole i) few close small = expr_fits d (argument args i) few (argument_close args i close)
term_fits d args (terms.Cell n) few close small = slot_fits d args n few close small
term_fits d args (terms.Behind n k) few close small = (slot_fits d args n few close small.0, small.1)
term_fits d args (terms.Word k) few close small = tt
term_fits d args (terms.Add n o) few close small = (slot_fits d args n few close small.0, second_fits d args o few close small.1)
term_fits d args (terms.Sub n o) few close small = (slot_fits d args n few close small.0, second_fits d args o few close small.1)
term_fits d args (terms.Mul n o) few close small = (slot_fits d args n few close small.0, second_fits d args o few close small.1)
