-- The words of expressions, as ap moves and as cells are added.
use Rattle.std.proofs.Common.{◌≡◌, ℕ, ℤ, pos, ◌-ℤ◌, Option, Some, None, refl, ap, ◌∙◌}
use Rattle.felt64.specs.Field.{sum, difference, product}
use Rattle.casm_word.specs.declared.instr.Reg.{Reg}
use Rattle.casm_word.specs.declared.instr.Reg.TheVariants as reg
use Rattle.casm_word.specs.declared.cell_expr.At.{At}
use Rattle.casm_word.specs.declared.cell_expr.Side.{Side}
use Rattle.casm_word.specs.declared.cell_expr.Side.TheVariants as side
use Rattle.casm_word.specs.declared.cell_expr.CellExpr.{CellExpr}
use Rattle.casm_word.specs.declared.cell_expr.CellExpr.TheVariants as expr
use Rattle.casm_word.specs.Expressions.{lowered, lowered_at, lowered_off, lowered_side}
use Rattle.ro_machine.specs.Step.{moved}
use Rattle.ro_machine.specs.Extends.{Extends}
use Rattle.casm_steps.specs.Reading.{register, address, both, behind, side_by, reading_by, reading, IsAtAbove, IsSideAbove, IsExprAbove}
use Rattle.casm_steps.proofs.Addresses.{moved_up, lowered_below}

pub both_is : (f : ℕ → ℕ → ℕ) (a b : Option ℕ) (x y : ℕ) → a ≡ Some x → b ≡ Some y → both f a b ≡ Some (f x y)
both_is f a b x y first second = rw (first, second) refl

pub both_parts : (f : ℕ → ℕ → ℕ) (a b : Option ℕ) (w : ℕ) → both f a b ≡ Some w → (x : ℕ) × (y : ℕ) × (a ≡ Some x) × (b ≡ Some y) × (f x y ≡ w)
both_parts f None b w is = cc
both_parts f (Some x) None w is = cc
both_parts f (Some x) (Some y) w is = (x, y, refl, refl, let same : f x y ≡ w = cc in same)

pub behind_parts : (m : ℕ → Option ℕ) (a : Option ℕ) (inner : ℤ) (w : ℕ) → behind m a inner ≡ Some w → (x : ℕ) × (a ≡ Some x) × (m (moved x inner) ≡ Some w)
behind_parts m None inner w is = cc
behind_parts m (Some x) inner w is = (x, refl, is)

module _ (a fp n : ℕ) where
  address_by : (r : Reg) (off : ℤ) → IsAtAbove (lowered_at n (record { base = r; off = off })) → moved (register r (sum a n) fp) (lowered_off n r off) ≡ moved (register r a fp) off
  address_by reg.Ap off above = moved_up a n (off -ℤ pos n) off (lowered_below n off) above
  address_by reg.Fp off above = refl

  address_lowered : (at : At) → IsAtAbove (lowered_at n at) → address (sum a n) fp (lowered_at n at) ≡ address a fp at
  address_lowered at above = address_by at.base at.off above

  module _ (m : ℕ → Option ℕ) where
    side_lowered : (s : Side) → IsSideAbove n s → side_by m (address (sum a n) fp) (lowered_side n s) ≡ side_by m (address a fp) s
    side_lowered (side.Cell at) above = ap m (address_lowered at above)
    side_lowered (side.Imm word) above = refl

    both_lowered : (f : ℕ → ℕ → ℕ) (at : At) (s : Side) → IsAtAbove (lowered_at n at) → IsSideAbove n s
        → both f (m (address (sum a n) fp (lowered_at n at))) (side_by m (address (sum a n) fp) (lowered_side n s)) ≡ both f (m (address a fp at)) (side_by m (address a fp) s)
    both_lowered f at s at_above side_above = ap (λ x. both f (m x) (side_by m (address (sum a n) fp) (lowered_side n s))) (address_lowered at at_above) ∙ ap (both f (m (address a fp at))) (side_lowered s side_above)

    pub reading_lowered : (e : CellExpr) → IsExprAbove n e → reading m (sum a n) fp (lowered n e) ≡ reading m a fp e
    reading_lowered (expr.Cell at) above = ap m (address_lowered at above)
    reading_lowered (expr.DoubleCell at inner) above = ap (λ x. behind m (m x) inner) (address_lowered at above)
    reading_lowered (expr.Imm word) above = refl
    reading_lowered (expr.Sum at s) above = both_lowered sum at s above.0 above.1
    reading_lowered (expr.Diff at s) above = both_lowered difference at s above.0 above.1
    reading_lowered (expr.Product at s) above = both_lowered product at s above.0 above.1

module _ (m more : ℕ → Option ℕ) (extends : Extends m more) (place : At → ℕ) where
  side_extends : (s : Side) (w : ℕ) → side_by m place s ≡ Some w → side_by more place s ≡ Some w
  side_extends (side.Cell at) w is = extends (place at) w is
  side_extends (side.Imm n) w is = is

  both_extends : (f : ℕ → ℕ → ℕ) (at : At) (s : Side) (w : ℕ) → both f (m (place at)) (side_by m place s) ≡ Some w → both f (more (place at)) (side_by more place s) ≡ Some w
  both_extends f at s w is =
      let parts = both_parts f (m (place at)) (side_by m place s) w is in
      both_is f (more (place at)) (side_by more place s) parts.0 parts.1 (extends (place at) parts.0 parts.2) (side_extends s parts.1 parts.3) ∙ ap Some parts.4

  pub reading_extends : (e : CellExpr) (w : ℕ) → reading_by m place e ≡ Some w → reading_by more place e ≡ Some w
  reading_extends (expr.Cell at) w is = extends (place at) w is
  reading_extends (expr.DoubleCell at inner) w is =
      let parts = behind_parts m (m (place at)) inner w is in
      ap (λ o. behind more o inner) (extends (place at) parts.0 parts.1) ∙ extends (moved parts.0 inner) w parts.2
  reading_extends (expr.Imm n) w is = is
  reading_extends (expr.Sum at s) w is = both_extends sum at s w is
  reading_extends (expr.Diff at s) w is = both_extends difference at s w is
  reading_extends (expr.Product at s) w is = both_extends product at s w is
