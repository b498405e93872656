-- The instruction that asserts a cell's word, and what it says of the expression.
use Rattle.std.proofs.Common.{◌≡◌, ℕ, Bool, Option, Some, None, refl, sym, ap, ◌∙◌}
use Rattle.felt64.specs.Field.{sum, difference, product, negative}
use Rattle.felt64.proofs.FieldLaws.{difference_is_sum, difference_from_sum, sum-difference}
use Rattle.casm_word.specs.declared.instr.CellRef.{CellRef}
use Rattle.casm_word.specs.declared.cell_expr.Side.{Side}
use Rattle.casm_word.specs.declared.cell_expr.Side.TheVariants as side
use Rattle.casm_word.specs.declared.cell_expr.CellExpr.{CellExpr}
use Rattle.casm_word.specs.declared.cell_expr.CellExpr.TheVariants as expr
use Rattle.casm_word.specs.Offset.{IsNear}
use Rattle.casm_word.specs.Bounds.{IsOperandNear, IsInstrNear}
use Rattle.ro_machine.specs.declared.machine.State.{State}
use Rattle.ro_machine.specs.Memory.{IsMemory}
use Rattle.casm_steps.specs.Reading.{address, both, side_by, reading_by}
use Rattle.casm_steps.specs.Executes.{state, cell_address, operand_word, next_pc, inc_ap, Executes}
use Rattle.casm_steps.proofs.Readings.{both_is, both_parts}
use Rattle.frag_code.specs.Form.{IsSideNear, IsExprNear}
use Rattle.frag_code.specs.Emit.{operand_of, assertion}

-- its offsets have 16 bits
operand_near : (s : Side) → IsSideNear s → IsOperandNear (operand_of s)
operand_near (side.Cell at) near = near
operand_near (side.Imm n) near = tt

pub assertion_near : (c : CellRef) (e : CellExpr) (inc : Bool) → IsNear c.off → IsExprNear e → IsInstrNear (assertion c e inc)
assertion_near c (expr.Cell at) inc near e_near = (near, e_near)
assertion_near c (expr.DoubleCell at inner) inc near e_near = (near, e_near)
assertion_near c (expr.Imm n) inc near e_near = (near, tt)
assertion_near c (expr.Sum at s) inc near e_near = (near, (e_near.0, operand_near s e_near.1))
assertion_near c (expr.Diff at (side.Cell b)) inc near e_near = (e_near.0, (near, e_near.1))
assertion_near c (expr.Diff at (side.Imm n)) inc near e_near = (near, (e_near.0, tt))
assertion_near c (expr.Product at s) inc near e_near = (near, (e_near.0, operand_near s e_near.1))

module _ (m : ℕ → Option ℕ) (field : IsMemory m) (s : State) where
  -- the cell has the word of the expression, and the next state is behind the instruction
  abbrev pub Asserted : CellRef → CellExpr → Bool → State → Type 0
  Asserted c e inc u =
      (w : ℕ) × (m (cell_address s c) ≡ Some w) × (reading_by m (address s.ap s.fp) e ≡ Some w) × (u ≡ state (next_pc (assertion c e inc) s) (inc_ap inc s) s.fp)

  side_operand : (x : Side) → operand_word m s (operand_of x) ≡ side_by m (address s.ap s.fp) x
  side_operand (side.Cell at) = refl
  side_operand (side.Imm n) = refl

  less_number : (a : Option ℕ) (n : ℕ) → both difference a (Some n) ≡ both sum a (Some (negative n))
  less_number None n = refl
  less_number (Some w) n = ap Some (difference_is_sum w n)

  -- what the instruction does is what is asserted
  pub asserts : (c : CellRef) (e : CellExpr) (inc : Bool) (u : State) → Executes m (assertion c e inc) s u → Asserted c e inc u
  asserts c (expr.Cell at) inc u does = does
  asserts c (expr.DoubleCell at inner) inc u does = does
  asserts c (expr.Imm n) inc u does = does
  asserts c (expr.Sum at x) inc u (w, left, right, next) = (w, left, ap (both sum (m (address s.ap s.fp at))) (sym (side_operand x)) ∙ right, next)
  asserts c (expr.Diff at (side.Cell b)) inc u (w, left, right, next) =
      let parts = both_parts sum (m (cell_address s c)) (m (address s.ap s.fp b)) w right in
      let less = difference_from_sum parts.0 parts.1 w (field _ _ parts.2).1 (field _ _ parts.3).1 parts.4 in
      (parts.0, parts.2, both_is difference (m (address s.ap s.fp at)) (m (address s.ap s.fp b)) w parts.1 left parts.3 ∙ ap Some (sym less), next)
  asserts c (expr.Diff at (side.Imm n)) inc u (w, left, right, next) = (w, left, less_number (m (address s.ap s.fp at)) n ∙ right, next)
  asserts c (expr.Product at x) inc u (w, left, right, next) = (w, left, ap (both product (m (address s.ap s.fp at))) (sym (side_operand x)) ∙ right, next)

  -- and back
  pub asserted_does : (c : CellRef) (e : CellExpr) (inc : Bool) (u : State) → Asserted c e inc u → Executes m (assertion c e inc) s u
  asserted_does c (expr.Cell at) inc u says = says
  asserted_does c (expr.DoubleCell at inner) inc u says = says
  asserted_does c (expr.Imm n) inc u says = says
  asserted_does c (expr.Sum at x) inc u (w, left, right, next) = (w, left, ap (both sum (m (address s.ap s.fp at))) (side_operand x) ∙ right, next)
  asserted_does c (expr.Diff at (side.Cell b)) inc u (w, left, right, next) =
      let parts = both_parts difference (m (address s.ap s.fp at)) (m (address s.ap s.fp b)) w right in
      let total = sum-difference parts.0 parts.1 (field _ _ parts.2).1 (field _ _ parts.3).1 in
      (parts.0, parts.2, both_is sum (m (cell_address s c)) (m (address s.ap s.fp b)) w parts.1 left parts.3 ∙ ap Some (ap (λ w. sum w parts.1) (sym parts.4) ∙ total), next)
  asserted_does c (expr.Diff at (side.Imm n)) inc u (w, left, right, next) = (w, left, sym (less_number (m (address s.ap s.fp at)) n) ∙ right, next)
  asserted_does c (expr.Product at x) inc u (w, left, right, next) = (w, left, ap (both product (m (address s.ap s.fp at))) (side_operand x) ∙ right, next)
