-- What the expressions of terms read once ap has moved.
use Rattle.std.proofs.Common.{◌≡◌, ℕ, zero, suc, ◌<◌, ◌^◌, ℤ, pos, ◌-ℤ◌, Option, List, [], ◌∷◌, map, refl, ap, ◌∙◌, arith}
use Rattle.std.proofs.lemmas.Int.{ints}
use Rattle.std.specs.List.{All}
use Rattle.std.proofs.lemmas.List.Elements.{All-head, All-tail}
use Rattle.felt64.specs.Field.{sum, difference, product}
use Rattle.casm_word.specs.declared.instr.Reg.{Reg}
use Rattle.casm_word.specs.declared.instr.Reg.TheVariants as reg
use Rattle.casm_word.specs.declared.cell_expr.At.{At}
use Rattle.casm_word.specs.declared.cell_expr.Side.{Side}
use Rattle.casm_word.specs.declared.cell_expr.Side.TheVariants as side
use Rattle.casm_word.specs.declared.cell_expr.CellExpr.{CellExpr}
use Rattle.casm_word.specs.declared.cell_expr.CellExpr.TheVariants as expr
use Rattle.casm_word.specs.Expressions.{lowered_at}
use Rattle.casm_steps.specs.Reading.{address, both, behind, side_by, reading, readings, IsAtAbove, IsSideAbove, IsExprAbove}
use Rattle.casm_steps.proofs.Addresses.{moved_up, lowered_below}
use Rattle.casm_steps.proofs.Readings.{reading_lowered}
use Rattle.cell_terms.specs.declared.term.Slot.{Slot}
use Rattle.cell_terms.specs.declared.term.Slot.TheVariants as slots
use Rattle.cell_terms.specs.declared.term.Second.{Second}
use Rattle.cell_terms.specs.declared.term.Second.TheVariants as seconds
use Rattle.cell_terms.specs.declared.term.Term.{Term}
use Rattle.cell_terms.specs.declared.term.Term.TheVariants as terms
use Rattle.cell_terms.specs.Resolving.{at_of, argument, place, side_of, resolve}
use Rattle.cost_table.specs.Fits.{IsClose, IsCloseSide, IsCloseExpr}
use Rattle.frag_plan.specs.AtBegin.{slot_at, second_at, at_begin}

base_above : (d : ℕ) (base : Reg) (off : ℤ) → d < 2 ^ 62 → IsClose (record { base = base; off = off }) → IsAtAbove (lowered_at d (record { base = base; off = off }))
base_above d reg.Ap off few close = let a = close.least in omega (arith, ints)
base_above d reg.Fp off few close = let a = close.least in omega (arith, ints)

pub at_above : (d : ℕ) (at : At) → d < 2 ^ 62 → IsClose at → IsAtAbove (lowered_at d at)
at_above d at few close = base_above d at.base at.off few close

side_above : (d : ℕ) (s : Side) → d < 2 ^ 62 → IsCloseSide s → IsSideAbove d s
side_above d (side.Cell at) few close = at_above d at few close
side_above d (side.Imm n) few close = tt

pub expr_above : (d : ℕ) (e : CellExpr) → d < 2 ^ 62 → IsCloseExpr e → IsExprAbove d e
expr_above d (expr.Cell at) few close = at_above d at few close
expr_above d (expr.DoubleCell at inner) few close = at_above d at few close
expr_above d (expr.Imm n) few close = tt
expr_above d (expr.Sum at s) few close = (at_above d at few close.0, side_above d s few close.1)
expr_above d (expr.Diff at s) few close = (at_above d at few close.0, side_above d s few close.1)
expr_above d (expr.Product at s) few close = (at_above d at few close.0, side_above d s few close.1)

pub argument_close : (args : List CellExpr) (i : ℕ) → All IsCloseExpr args → IsCloseExpr (argument args i)
argument_close [] i close = tt
argument_close (e ∷ args) zero close = All-head IsCloseExpr e args close
argument_close (e ∷ args) (suc i) close = argument_close args i (All-tail IsCloseExpr e args close)

pub cell_close : (e : CellExpr) → IsCloseExpr e → IsClose (at_of e)
cell_close (expr.Cell at) close = close
cell_close (expr.DoubleCell at inner) close = record { least = omega (arith, ints); most = omega (arith, ints) }
cell_close (expr.Imm n) close = record { least = omega (arith, ints); most = omega (arith, ints) }
cell_close (expr.Sum at s) close = record { least = omega (arith, ints); most = omega (arith, ints) }
cell_close (expr.Diff at s) close = record { least = omega (arith, ints); most = omega (arith, ints) }
cell_close (expr.Product at s) close = record { least = omega (arith, ints); most = omega (arith, ints) }

module _ (m : ℕ → Option ℕ) (a fp d : ℕ) (few : d < 2 ^ 62) (args : List CellExpr) (close : All IsCloseExpr args) where
  slot_read : (n : Slot) → m (address (sum a d) fp (place d args n)) ≡ slot_at m a fp args n
  slot_read (slots.Own k) = ap m (moved_up a d (pos k -ℤ pos d) (pos k) (lowered_below d (pos k)) (omega (arith, ints, few)))
  slot_read (slots.Arg i) =
      reading_lowered a fp d m (expr.Cell (at_of (argument args i))) (at_above d (at_of (argument args i)) few (cell_close (argument args i) (argument_close args i close)))
  slot_read (slots.Frame k) = refl

  second_read : (o : Second) → side_by m (address (sum a d) fp) (side_of d args o) ≡ second_at m a fp args o
  second_read (seconds.Slot n) = slot_read n
  second_read (seconds.Number k) = refl

  both_read : (f : ℕ → ℕ → ℕ) (n : Slot) (o : Second)
      → both f (m (address (sum a d) fp (place d args n))) (side_by m (address (sum a d) fp) (side_of d args o)) ≡ both f (slot_at m a fp args n) (second_at m a fp args o)
  both_read f n o =
      ap (λ x. both f x (side_by m (address (sum a d) fp) (side_of d args o))) (slot_read n) ∙ ap (both f (slot_at m a fp args n)) (second_read o)

  pub term_read : (t : Term) → reading m (sum a d) fp (resolve d args t) ≡ at_begin m a fp args t
  term_read (terms.Whole i) = reading_lowered a fp d m (argument args i) (expr_above d (argument args i) few (argument_close args i close))
  term_read (terms.Cell n) = slot_read n
  term_read (terms.Behind n k) = ap (λ x. behind m x (pos k)) (slot_read n)
  term_read (terms.Word k) = refl
  term_read (terms.Add n o) = both_read sum n o
  term_read (terms.Sub n o) = both_read difference n o
  term_read (terms.Mul n o) = both_read product n o

  pub terms_read : (ts : List Term) → readings m (sum a d) fp (map (resolve d args) ts) ≡ map (at_begin m a fp args) ts
  terms_read [] = refl
  terms_read (t ∷ ts) = ap (λ o. o ∷ readings m (sum a d) fp (map (resolve d args) ts)) (term_read t) ∙ ap (λ os. at_begin m a fp args t ∷ os) (terms_read ts)
