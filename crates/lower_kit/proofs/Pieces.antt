-- Rows of pieces: one piece more, and that they are the rows of plans.
use Rattle.std.proofs.Common.{◌≡◌, ℕ, zero, suc, ◌+◌, List, [], ◌∷◌, ◌++◌, map, refl, sym, ap, ◌∙◌, append_assoc, arith}
use Rattle.std.specs.List.{All, range_with_len}
use Rattle.std.proofs.lemmas.List.FromFn.{map-range_with_len_more}
use Rattle.std.proofs.lemmas.List.Elements.{All-head, All-tail}
use Rattle.casm_word.specs.declared.cell_expr.CellExpr.{CellExpr}
use Rattle.casm_word.specs.declared.cell_expr.CellExpr.TheVariants as expr
use Rattle.casm_word.specs.declared.cell_expr.Side.{Side}
use Rattle.casm_word.specs.declared.cell_expr.Side.TheVariants as side
use Rattle.casm_word.specs.Expressions.{IsExprInField, IsSideInField, lowered, lowered_side}
use Rattle.cell_terms.specs.declared.term.Slot.TheVariants as slots
use Rattle.cell_terms.specs.declared.term.Term.TheVariants as terms
use Rattle.cell_terms.specs.Resolving.{argument, resolve}
use Rattle.frag_code.specs.declared.piece.Piece.{Piece}
use Rattle.frag_code.specs.declared.piece.Piece.TheVariants as piece
use Rattle.frag_plan.specs.Plan.{exit, ref_of, flatten}
use Rattle.cost_table.specs.Terms.{further, run, kept}
use Rattle.lower_kit.specs.Rows.{lay_each, same_each}
use Rattle.lower_kit.specs.Pieces.{laid_piece, copied_piece, boxed_piece, pieces_of}

pub more : (f : ℕ → Piece) (k : ℕ) (before now next : List Piece) (x : Piece) → now ≡ before ++ pieces_of f k → next ≡ now ++ x ∷ [] → x ≡ f k → next ≡ before ++ pieces_of f (k + 1)
more f k before now next x held pushed is =
    let a : now ++ x ∷ [] ≡ (before ++ pieces_of f k) ++ f k ∷ [] = ap (λ y. now ++ y ∷ []) is ∙ ap (λ ys. ys ++ f k ∷ []) held in
    let b : (before ++ pieces_of f k) ++ f k ∷ [] ≡ before ++ (pieces_of f k ++ f k ∷ []) = rw append_assoc in
    pushed ∙ a ∙ b ∙ ap (λ ys. before ++ ys) (sym (map-range_with_len_more f 0 k k (omega arith)))

lowered_side_in : (d : ℕ) (s : Side) → IsSideInField s → IsSideInField (lowered_side d s)
lowered_side_in d (side.Cell at) held = tt
lowered_side_in d (side.Imm n) held = held

lowered_in : (d : ℕ) (e : CellExpr) → IsExprInField e → IsExprInField (lowered d e)
lowered_in d (expr.Cell at) held = tt
lowered_in d (expr.DoubleCell at inner) held = tt
lowered_in d (expr.Imm n) held = held
lowered_in d (expr.Sum at s) held = lowered_side_in d s held
lowered_in d (expr.Diff at s) held = lowered_side_in d s held
lowered_in d (expr.Product at s) held = lowered_side_in d s held

argument_in : (args : List CellExpr) (i : ℕ) → All IsExprInField args → IsExprInField (argument args i)
argument_in [] i held = omega arith
argument_in (e ∷ args) zero held = All-head IsExprInField e args held
argument_in (e ∷ args) (suc i) held = argument_in args i (All-tail IsExprInField e args held)

-- the numbers of an argument expression, as it is, are in the field
pub whole_in : (d i : ℕ) (args : List CellExpr) → All IsExprInField args → IsExprInField (resolve d args (terms.Whole i))
whole_in d i args held = lowered_in d (argument args i) (argument_in args i held)

laid_from : (args : List CellExpr) (k n i x : ℕ) → flatten args k i (lay_each (map (further (terms.Whole 0)) (range_with_len k n)) (exit x)) ≡ map (laid_piece args) (range_with_len k n) ++ piece.Exit x ∷ []
laid_from args k zero i x = refl
laid_from args k (suc n) i x =
    let same : 0 + k ≡ k = omega arith in
    ap (λ j. piece.Let (resolve k args (terms.Whole j)) ∷ flatten args (k + 1) (i + 1) (lay_each (map (further (terms.Whole 0)) (range_with_len (k + 1) n)) (exit x))) same
    ∙ ap (λ ps. laid_piece args k ∷ ps) (laid_from args (k + 1) n (i + 1) x)

-- a row that lays the first expressions, and an exit
pub laid_row : (args : List CellExpr) (n x : ℕ) → flatten args 0 0 (lay_each (kept 0 n) (exit x)) ≡ pieces_of (laid_piece args) n ++ piece.Exit x ∷ []
laid_row args n x = laid_from args 0 n 0 x

copied_from : (args : List CellExpr) (from k n i x : ℕ) → flatten args 0 i (same_each k (map (further (terms.Whole from)) (range_with_len k n)) (exit x)) ≡ map (copied_piece args from) (range_with_len k n) ++ piece.Exit x ∷ []
copied_from args from k zero i x = refl
copied_from args from k (suc n) i x = ap (λ ps. copied_piece args from k ∷ ps) (copied_from args from (k + 1) n (i + 1) x)

pub copied_row : (args : List CellExpr) (from n x : ℕ) → flatten args 0 0 (same_each 0 (kept from n) (exit x)) ≡ pieces_of (copied_piece args from) n ++ piece.Exit x ∷ []
copied_row args from n x = copied_from args from 0 n 0 x

boxed_from : (args : List CellExpr) (k n i x : ℕ) → flatten args 1 i (same_each k (map (further (terms.Behind (slots.Own 0) 0)) (range_with_len k n)) (exit x)) ≡ map (boxed_piece args) (range_with_len k n) ++ piece.Exit x ∷ []
boxed_from args k zero i x = refl
boxed_from args k (suc n) i x =
    let same : 0 + k ≡ k = omega arith in
    ap (λ j. piece.Assert (ref_of 1 args (slots.Arg k)) (resolve 1 args (terms.Behind (slots.Own 0) j)) ∷ flatten args 1 (i + 1) (same_each (k + 1) (map (further (terms.Behind (slots.Own 0) 0)) (range_with_len (k + 1) n)) (exit x))) same
    ∙ ap (λ ps. boxed_piece args k ∷ ps) (boxed_from args (k + 1) n (i + 1) x)

pub boxed_row : (args : List CellExpr) (n i x : ℕ) → flatten args 1 i (same_each 0 (run (terms.Behind (slots.Own 0) 0) n) (exit x)) ≡ pieces_of (boxed_piece args) n ++ piece.Exit x ∷ []
boxed_row args n i x = boxed_from args 0 n i x
