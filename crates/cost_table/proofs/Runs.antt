-- Runs of terms, one term more.
use Rattle.std.proofs.Common.{◌≡◌, ℕ, ◌+◌, ◌≤◌, List, [], ◌∷◌, ◌++◌, map, refl, sym, ap, ◌∙◌, append_assoc, arith}
use Rattle.std.proofs.lemmas.List.FromFn.{map-range_with_len_more}
use Rattle.casm_word.specs.declared.cell_expr.CellExpr.{CellExpr}
use Rattle.cell_terms.specs.declared.term.Slot.TheVariants as slots
use Rattle.cell_terms.specs.declared.term.Term.{Term}
use Rattle.cell_terms.specs.declared.term.Term.TheVariants as terms
use Rattle.cost_table.specs.Terms.{further, run}
use Rattle.cost_table.specs.Parts.{IsSmallRun}

map_more : (f : Term → CellExpr) (xs : List Term) (t : Term) → map f (xs ++ t ∷ []) ≡ map f xs ++ f t ∷ []
map_more f [] t = refl
map_more f (x ∷ xs) t = ap (λ ys. f x ∷ ys) (map_more f xs t)

pub run_more : (f : Term → CellExpr) (t : Term) (k : ℕ) → map f (run t (k + 1)) ≡ map f (run t k) ++ f (further t k) ∷ []
run_more f t k = ap (map f) (map-range_with_len_more (further t) 0 k k (omega arith)) ∙ map_more f (run t k) (further t k)

pub run_step : (f : Term → CellExpr) (t : Term) (k : ℕ) (before now next : List CellExpr) (x : Term) → now ≡ before ++ map f (run t k)
    → next ≡ now ++ f x ∷ [] → x ≡ further t k → next ≡ before ++ map f (run t (k + 1))
run_step f t k before now next x held pushed is =
    let a : now ++ f x ∷ [] ≡ now ++ f (further t k) ∷ [] = ap (λ y. now ++ f y ∷ []) is in
    let b : now ++ f (further t k) ∷ [] ≡ (before ++ map f (run t k)) ++ f (further t k) ∷ [] = ap (λ ys. ys ++ f (further t k) ∷ []) held in
    let d : (before ++ map f (run t k)) ++ f (further t k) ∷ [] ≡ before ++ (map f (run t k) ++ f (further t k) ∷ []) = rw append_assoc in
    let e : before ++ (map f (run t k) ++ f (further t k) ∷ []) ≡ before ++ map f (run t (k + 1)) = ap (λ ys. before ++ ys) (sym (run_more f t k)) in
    pushed ∙ a ∙ b ∙ d ∙ e

pub shorter : (t : Term) (n m : ℕ) → m ≤ n → IsSmallRun t n → IsSmallRun t m
shorter (terms.Whole i) n m less small = omega arith
shorter (terms.Cell (slots.Own i)) n m less small = omega arith
shorter (terms.Cell (slots.Arg i)) n m less small = omega arith
shorter (terms.Cell (slots.Frame i)) n m less small = omega arith
shorter (terms.Behind s i) n m less small = (small.0, omega (arith, small.1))
shorter (terms.Word w) n m less small = tt
shorter (terms.Add s o) n m less small = small
shorter (terms.Sub s o) n m less small = small
shorter (terms.Mul s o) n m less small = small
