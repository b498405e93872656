-- Lists of arguments, of what is held and of branches, one more at a time.
use Rattle.std.proofs.Common.{◌≡◌, ℕ, ◌+◌, ◌≤◌, ℤ, pos, ◌-ℤ◌, List, [], ◌∷◌, ◌++◌, map, length, take, Result, Ok, Err, IfOk, MatchResult, refl, sym, ap, subst, ◌∙◌, arith}
use Rattle.std.specs.List.{range_with_len}
use Rattle.std.proofs.lemmas.List.FromFn.{map-range_with_len_more}
use Rattle.std.proofs.lemmas.Int.{ints}
use Rattle.std.proofs.lemmas.List.{append_assoc, take_all}
use Rattle.casm_word.specs.declared.cell_expr.CellExpr.{CellExpr}
use Rattle.casm_word.specs.Expressions.{lowered_off, lowered_at, lowered_side, lowered}
use Rattle.casm_word.specs.declared.instr.Reg.{Reg}
use Rattle.casm_word.specs.declared.instr.Reg.TheVariants as reg
use Rattle.casm_word.specs.declared.cell_expr.At.{At}
use Rattle.casm_word.specs.declared.cell_expr.Side.{Side}
use Rattle.casm_word.specs.declared.cell_expr.Side.TheVariants as side
use Rattle.casm_word.specs.declared.cell_expr.CellExpr.TheVariants as expr
use Rattle.held_list.specs.Held.{Held, RisesFrom, Each}
use Rattle.ap_refs.specs.Arguments.{Cells}
use Rattle.ap_refs.specs.Moves.{lowered_all, argument_cell}

-- naming cells anew keeps the variables
pub lowered_rises : (n : ℕ) (held : Held Cells) (least : ℕ) → RisesFrom least held → RisesFrom least (lowered_all n held)
lowered_rises n [] least rises = tt
lowered_rises n (x ∷ xs) least rises = (rises.0, lowered_rises n xs (x.0 + 1) rises.1)

-- one item more at the end of those so far
pub one_more : {A : Type 0} (all before now later : List A) (x : A) → all ≡ before ++ x ∷ later → now ≡ before ++ x ∷ [] → all ≡ now ++ later
one_more all before now later x is pushed = is ∙ sym (append_assoc before (x ∷ []) later) ∙ ap (λ l. l ++ later) (sym pushed)

-- one argument cell more
pub argument_cells_more : (count k : ℕ) (cells more : Cells) (x : CellExpr) → cells ≡ map (argument_cell count) (range_with_len 0 k) → more ≡ cells ++ x ∷ [] → x ≡ argument_cell count k
    → more ≡ map (argument_cell count) (range_with_len 0 (k + 1))
argument_cells_more count k cells more x are pushed is =
    pushed ∙ ap (λ y. cells ++ y ∷ []) is ∙ ap (λ xs. xs ++ argument_cell count k ∷ []) are ∙ sym (map-range_with_len_more (argument_cell count) 0 k k (omega arith))

-- a copy is what was copied
each_same : (held copied : Held Cells) → Each (λ cells other. other ≡ cells) held copied → copied ≡ held
each_same [] [] each = refl
each_same [] (y ∷ ys) each = absurd each
each_same (x ∷ xs) [] each = absurd each
each_same (x ∷ xs) (y ∷ ys) each =
    let pair : y ≡ x = ap (λ v. (v, y.1)) (sym each.0) ∙ ap (λ cells. (x.0, cells)) each.1 in
    ap (λ z. z ∷ ys) pair ∙ ap (λ zs. x ∷ zs) (each_same xs ys each.2)

pub copied : {E : Type 0} (P : E → Type 0) (r : Result (Held Cells) E) (held : Held Cells) → MatchResult r (Each (λ cells other. other ≡ cells) held) P → IfOk r (λ other. other ≡ held)
copied P (Ok other) held is = each_same held other is
copied P (Err x) held is = tt

-- what is named anew in full rises as what was there
pub rises_named : (n : ℕ) (held pairs : Held Cells) (count : ℕ) → pairs ≡ lowered_all n (take count held) → length held ≤ count → RisesFrom 0 held → RisesFrom 0 pairs
rises_named n held pairs count are all rises =
    subst (RisesFrom 0) (sym (are ∙ ap (lowered_all n) (take_all count held all))) (lowered_rises n held 0 rises)

-- where ap doesn't move, names stay

off_stays : (base : Reg) (off : ℤ) → lowered_off 0 base off ≡ off
off_stays reg.Ap off = grind (arith, ints)
off_stays reg.Fp off = refl

at_stays : (at : At) → lowered_at 0 at ≡ at
at_stays at = ap (λ (o : ℤ). record { base = at.base; off = o }) (off_stays at.base at.off)

side_stays : (s : Side) → lowered_side 0 s ≡ s
side_stays (side.Cell at) = ap side.Cell (at_stays at)
side_stays (side.Imm n) = refl

expr_stays : (e : CellExpr) → lowered 0 e ≡ e
expr_stays (expr.Cell at) = ap expr.Cell (at_stays at)
expr_stays (expr.DoubleCell at inner) = ap (λ x. expr.DoubleCell x inner) (at_stays at)
expr_stays (expr.Imm n) = refl
expr_stays (expr.Sum at s) = ap (λ x. expr.Sum x (lowered_side 0 s)) (at_stays at) ∙ ap (expr.Sum at) (side_stays s)
expr_stays (expr.Diff at s) = ap (λ x. expr.Diff x (lowered_side 0 s)) (at_stays at) ∙ ap (expr.Diff at) (side_stays s)
expr_stays (expr.Product at s) = ap (λ x. expr.Product x (lowered_side 0 s)) (at_stays at) ∙ ap (expr.Product at) (side_stays s)

cells_stay : (cells : Cells) → map (lowered 0) cells ≡ cells
cells_stay [] = refl
cells_stay (e ∷ es) = ap (λ x. x ∷ map (lowered 0) es) (expr_stays e) ∙ ap (λ xs. e ∷ xs) (cells_stay es)

held_stays : (held : Held Cells) → lowered_all 0 held ≡ held
held_stays [] = refl
held_stays (x ∷ xs) = ap (λ (cells : Cells). (x.0, cells) ∷ lowered_all 0 xs) (cells_stay x.1) ∙ ap (λ ys. x ∷ ys) (held_stays xs)

pub stays : (n : ℕ) (held : Held Cells) → n ≡ 0 → lowered_all n held ≡ held
stays n held is = ap (λ m. lowered_all m held) is ∙ held_stays held

pub none_stays : (n : ℕ) (held : Held Cells) → held ≡ [] → lowered_all n held ≡ held
none_stays n held is = ap (lowered_all n) is ∙ sym is
