-- The tests that compare places decide equality.
use Rattle.std.proofs.Common.{◌≡◌, ℕ, Bool, true, false, List, [], ◌∷◌, Option, Some, None, refl, sym, ap, ◌∙◌, eqb}
use Rattle.std.specs.Ordering.{int_eq}
use Rattle.std.proofs.lemmas.Bool.{false≢true}
use Rattle.std.proofs.lemmas.Bool.Decides.{Decides-eqb, Decides-int_eq, Decides-and, Decides-like}
use Rattle.held_list.specs.Difference.{DecidesEquality}
use Rattle.casm_word.specs.declared.instr.Reg.{Reg}
use Rattle.casm_word.specs.declared.instr.Reg.TheVariants as reg
use Rattle.casm_word.specs.declared.cell_expr.At.{At}
use Rattle.casm_word.specs.declared.cell_expr.Side.{Side}
use Rattle.casm_word.specs.declared.cell_expr.Side.TheVariants as side
use Rattle.casm_word.specs.declared.cell_expr.CellExpr.{CellExpr}
use Rattle.casm_word.specs.declared.cell_expr.CellExpr.TheVariants as expr
use Rattle.ap_refs.specs.declared.place.Locals.{Locals}
use Rattle.ap_refs.specs.declared.place.Locals.TheVariants.{Before, Allocating, Done}
use Rattle.ap_refs.specs.Arguments.{Cells}
use Rattle.ap_refs.specs.Flow.{same_reg, same_at, same_side, same_expr, same_cells, same_ap, same_locals}

same_reg_decides : DecidesEquality same_reg
same_reg_decides reg.Ap reg.Ap = (λ _. refl, λ _. refl)
same_reg_decides reg.Ap reg.Fp = (λ is. absurd (false≢true is), λ same. (let no : ⊥ = cc in absurd no))
same_reg_decides reg.Fp reg.Ap = (λ is. absurd (false≢true is), λ same. (let no : ⊥ = cc in absurd no))
same_reg_decides reg.Fp reg.Fp = (λ _. refl, λ _. refl)

at_same : (a b : At) → a.base ≡ b.base → a.off ≡ b.off → a ≡ b
at_same a b base off = ap (λ r. record { base = r; off = a.off }) base ∙ ap (λ o. record { base = b.base; off = o }) off

same_at_decides : DecidesEquality same_at
same_at_decides a b =
    Decides-like (same_at a b) (λ parts. at_same a b parts.0 parts.1) (λ same. (ap (λ (x : At). x.base) same, ap (λ (x : At). x.off) same))
    (Decides-and (same_reg a.base b.base) (int_eq a.off b.off) (same_reg_decides a.base b.base) (Decides-int_eq a.off b.off))

same_side_decides : DecidesEquality same_side
same_side_decides (side.Cell a) (side.Cell b) = Decides-like (same_at a b) (λ is. ap side.Cell is) (λ same. cc) (same_at_decides a b)
same_side_decides (side.Cell a) (side.Imm n) = (λ is. absurd (false≢true is), λ same. (let no : ⊥ = cc in absurd no))
same_side_decides (side.Imm n) (side.Cell a) = (λ is. absurd (false≢true is), λ same. (let no : ⊥ = cc in absurd no))
same_side_decides (side.Imm n) (side.Imm m) = Decides-like (eqb n m) (λ is. ap side.Imm is) (λ same. cc) (Decides-eqb n m)

pub same_expr_decides : DecidesEquality same_expr
same_expr_decides (expr.Cell a) (expr.Cell b) = Decides-like (same_at a b) (λ is. ap expr.Cell is) (λ same. cc) (same_at_decides a b)
same_expr_decides (expr.Cell a) (expr.DoubleCell b bi) = (λ is. absurd (false≢true is), λ same. (let no : ⊥ = cc in absurd no))
same_expr_decides (expr.Cell a) (expr.Imm bn) = (λ is. absurd (false≢true is), λ same. (let no : ⊥ = cc in absurd no))
same_expr_decides (expr.Cell a) (expr.Sum b bv) = (λ is. absurd (false≢true is), λ same. (let no : ⊥ = cc in absurd no))
same_expr_decides (expr.Cell a) (expr.Diff b bv) = (λ is. absurd (false≢true is), λ same. (let no : ⊥ = cc in absurd no))
same_expr_decides (expr.Cell a) (expr.Product b bv) = (λ is. absurd (false≢true is), λ same. (let no : ⊥ = cc in absurd no))
same_expr_decides (expr.DoubleCell a ai) (expr.Cell b) = (λ is. absurd (false≢true is), λ same. (let no : ⊥ = cc in absurd no))
same_expr_decides (expr.DoubleCell a ai) (expr.DoubleCell b bi) = Decides-like (same_expr (expr.DoubleCell a ai) (expr.DoubleCell b bi)) (λ is. ap (λ x. expr.DoubleCell x ai) is.0 ∙ ap (expr.DoubleCell b) is.1) (λ same. (cc, cc)) (Decides-and (same_at a b) (int_eq ai bi) (same_at_decides a b) (Decides-int_eq ai bi))
same_expr_decides (expr.DoubleCell a ai) (expr.Imm bn) = (λ is. absurd (false≢true is), λ same. (let no : ⊥ = cc in absurd no))
same_expr_decides (expr.DoubleCell a ai) (expr.Sum b bv) = (λ is. absurd (false≢true is), λ same. (let no : ⊥ = cc in absurd no))
same_expr_decides (expr.DoubleCell a ai) (expr.Diff b bv) = (λ is. absurd (false≢true is), λ same. (let no : ⊥ = cc in absurd no))
same_expr_decides (expr.DoubleCell a ai) (expr.Product b bv) = (λ is. absurd (false≢true is), λ same. (let no : ⊥ = cc in absurd no))
same_expr_decides (expr.Imm an) (expr.Cell b) = (λ is. absurd (false≢true is), λ same. (let no : ⊥ = cc in absurd no))
same_expr_decides (expr.Imm an) (expr.DoubleCell b bi) = (λ is. absurd (false≢true is), λ same. (let no : ⊥ = cc in absurd no))
same_expr_decides (expr.Imm an) (expr.Imm bn) = Decides-like (eqb an bn) (λ is. ap expr.Imm is) (λ same. cc) (Decides-eqb an bn)
same_expr_decides (expr.Imm an) (expr.Sum b bv) = (λ is. absurd (false≢true is), λ same. (let no : ⊥ = cc in absurd no))
same_expr_decides (expr.Imm an) (expr.Diff b bv) = (λ is. absurd (false≢true is), λ same. (let no : ⊥ = cc in absurd no))
same_expr_decides (expr.Imm an) (expr.Product b bv) = (λ is. absurd (false≢true is), λ same. (let no : ⊥ = cc in absurd no))
same_expr_decides (expr.Sum a av) (expr.Cell b) = (λ is. absurd (false≢true is), λ same. (let no : ⊥ = cc in absurd no))
same_expr_decides (expr.Sum a av) (expr.DoubleCell b bi) = (λ is. absurd (false≢true is), λ same. (let no : ⊥ = cc in absurd no))
same_expr_decides (expr.Sum a av) (expr.Imm bn) = (λ is. absurd (false≢true is), λ same. (let no : ⊥ = cc in absurd no))
same_expr_decides (expr.Sum a av) (expr.Sum b bv) = Decides-like (same_expr (expr.Sum a av) (expr.Sum b bv)) (λ is. ap (λ x. expr.Sum x av) is.0 ∙ ap (expr.Sum b) is.1) (λ same. (cc, cc)) (Decides-and (same_at a b) (same_side av bv) (same_at_decides a b) (same_side_decides av bv))
same_expr_decides (expr.Sum a av) (expr.Diff b bv) = (λ is. absurd (false≢true is), λ same. (let no : ⊥ = cc in absurd no))
same_expr_decides (expr.Sum a av) (expr.Product b bv) = (λ is. absurd (false≢true is), λ same. (let no : ⊥ = cc in absurd no))
same_expr_decides (expr.Diff a av) (expr.Cell b) = (λ is. absurd (false≢true is), λ same. (let no : ⊥ = cc in absurd no))
same_expr_decides (expr.Diff a av) (expr.DoubleCell b bi) = (λ is. absurd (false≢true is), λ same. (let no : ⊥ = cc in absurd no))
same_expr_decides (expr.Diff a av) (expr.Imm bn) = (λ is. absurd (false≢true is), λ same. (let no : ⊥ = cc in absurd no))
same_expr_decides (expr.Diff a av) (expr.Sum b bv) = (λ is. absurd (false≢true is), λ same. (let no : ⊥ = cc in absurd no))
same_expr_decides (expr.Diff a av) (expr.Diff b bv) = Decides-like (same_expr (expr.Diff a av) (expr.Diff b bv)) (λ is. ap (λ x. expr.Diff x av) is.0 ∙ ap (expr.Diff b) is.1) (λ same. (cc, cc)) (Decides-and (same_at a b) (same_side av bv) (same_at_decides a b) (same_side_decides av bv))
same_expr_decides (expr.Diff a av) (expr.Product b bv) = (λ is. absurd (false≢true is), λ same. (let no : ⊥ = cc in absurd no))
same_expr_decides (expr.Product a av) (expr.Cell b) = (λ is. absurd (false≢true is), λ same. (let no : ⊥ = cc in absurd no))
same_expr_decides (expr.Product a av) (expr.DoubleCell b bi) = (λ is. absurd (false≢true is), λ same. (let no : ⊥ = cc in absurd no))
same_expr_decides (expr.Product a av) (expr.Imm bn) = (λ is. absurd (false≢true is), λ same. (let no : ⊥ = cc in absurd no))
same_expr_decides (expr.Product a av) (expr.Sum b bv) = (λ is. absurd (false≢true is), λ same. (let no : ⊥ = cc in absurd no))
same_expr_decides (expr.Product a av) (expr.Diff b bv) = (λ is. absurd (false≢true is), λ same. (let no : ⊥ = cc in absurd no))
same_expr_decides (expr.Product a av) (expr.Product b bv) = Decides-like (same_expr (expr.Product a av) (expr.Product b bv)) (λ is. ap (λ x. expr.Product x av) is.0 ∙ ap (expr.Product b) is.1) (λ same. (cc, cc)) (Decides-and (same_at a b) (same_side av bv) (same_at_decides a b) (same_side_decides av bv))

pub same_cells_decides : DecidesEquality same_cells
same_cells_decides [] [] = (λ _. refl, λ _. refl)
same_cells_decides [] (d ∷ ds) = (λ is. absurd (false≢true is), λ same. (let no : ⊥ = cc in absurd no))
same_cells_decides (c ∷ cs) [] = (λ is. absurd (false≢true is), λ same. (let no : ⊥ = cc in absurd no))
same_cells_decides (c ∷ cs) (d ∷ ds) =
    Decides-like (same_cells (c ∷ cs) (d ∷ ds)) (λ is. ap (λ x. x ∷ cs) is.0 ∙ ap (λ xs. d ∷ xs) is.1) (λ same. (cc, cc))
    (Decides-and (same_expr c d) (same_cells cs ds) (same_expr_decides c d) (same_cells_decides cs ds))

pub same_ap_decides : DecidesEquality same_ap
same_ap_decides None None = (λ _. refl, λ _. refl)
same_ap_decides None (Some b) = (λ is. absurd (false≢true is), λ same. (let no : ⊥ = cc in absurd no))
same_ap_decides (Some a) None = (λ is. absurd (false≢true is), λ same. (let no : ⊥ = cc in absurd no))
same_ap_decides (Some a) (Some b) = Decides-like (eqb a b) (λ is. ap Some is) (λ same. cc) (Decides-eqb a b)

pub same_locals_decides : DecidesEquality same_locals
same_locals_decides Before Before = (λ _. refl, λ _. refl)
same_locals_decides Before (Allocating t m) = (λ is. absurd (false≢true is), λ same. (let no : ⊥ = cc in absurd no))
same_locals_decides Before Done = (λ is. absurd (false≢true is), λ same. (let no : ⊥ = cc in absurd no))
same_locals_decides (Allocating s n) Before = (λ is. absurd (false≢true is), λ same. (let no : ⊥ = cc in absurd no))
same_locals_decides (Allocating s n) (Allocating t m) =
    Decides-like (same_locals (Allocating s n) (Allocating t m)) (λ is. ap (λ x. Allocating x n) is.0 ∙ ap (Allocating t) is.1) (λ same. (cc, cc))
    (Decides-and (eqb s t) (eqb n m) (Decides-eqb s t) (Decides-eqb n m))
same_locals_decides (Allocating s n) Done = (λ is. absurd (false≢true is), λ same. (let no : ⊥ = cc in absurd no))
same_locals_decides Done Before = (λ is. absurd (false≢true is), λ same. (let no : ⊥ = cc in absurd no))
same_locals_decides Done (Allocating t m) = (λ is. absurd (false≢true is), λ same. (let no : ⊥ = cc in absurd no))
same_locals_decides Done Done = (λ _. refl, λ _. refl)
