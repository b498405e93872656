-- When the arguments of a statement are close.
use Rattle.std.proofs.Common.{◌≡◌, ℕ, ◌^◌, ◌-◌, ℤ, pos, ◌≤ℤ◌, int_le, Bool, true, false, cond, ◌&&◌, Decides, List, [], ◌∷◌, ◌++◌, Option, Some, None, option_map, refl, sym, ap, subst, ◌∙◌, arith}
use Rattle.std.specs.List.{All, list_all}
use Rattle.std.proofs.lemmas.Int.{ints}
use Rattle.std.proofs.lemmas.Bool.{false≢true}
use Rattle.std.proofs.lemmas.Bool.Decides.{Decides-and, Decides-like, Decides-by_and}
use Rattle.std.proofs.lemmas.List.Elements.{All-nil, All-cons, All-head, All-tail, All-append}
use Rattle.std.proofs.lemmas.Option.{none-some}
use Rattle.casm_word.specs.Offset.{minus}
use Rattle.casm_word.specs.declared.cell_expr.At.{At}
use Rattle.casm_word.specs.declared.cell_expr.Side.{Side}
use Rattle.casm_word.specs.declared.cell_expr.Side.TheVariants as side
use Rattle.casm_word.specs.declared.cell_expr.CellExpr.{CellExpr}
use Rattle.casm_word.specs.declared.cell_expr.CellExpr.TheVariants as expr
use Rattle.cost_table.specs.Fits.{IsClose, IsCloseSide, IsCloseExpr}
use Rattle.ap_refs.specs.declared.fault.RefFault.TheVariants.{OffsetTooFar}
use Rattle.ap_refs.specs.Arguments.{Argument, joined, is_close_at, is_close_side, is_close, first_far}
use Rattle.ap_refs.specs.Flow.{far_fault}

le_decides : (a b : ℤ) → Decides (int_le a b) (a ≤ℤ b)
le_decides a b = by (int_le a b) refl
  where
    by : (t : Bool) → int_le a b ≡ t → Decides (int_le a b) (a ≤ℤ b)
    by true e = ((λ _. omega (arith, ints)), (λ _. e))
    by false e = ((λ is. absurd (false≢true (sym e ∙ is))), (λ le. absurd (omega (arith, ints))))

close_at : (at : At) → Decides (is_close_at at) (IsClose at)
close_at at =
    Decides-like (is_close_at at) (λ both. record { least = both.0; most = both.1 }) (λ close. (close.least, close.most))
    (Decides-and (int_le (minus (2 ^ 14)) at.off) (int_le at.off (pos (2 ^ 14 - 1))) (le_decides (minus (2 ^ 14)) at.off) (le_decides at.off (pos (2 ^ 14 - 1))))

close_side : (s : Side) → Decides (is_close_side s) (IsCloseSide s)
close_side (side.Cell at) = close_at at
close_side (side.Imm n) = ((λ _. tt), (λ _. refl))

close_expr : (e : CellExpr) → Decides (is_close e) (IsCloseExpr e)
close_expr (expr.Cell at) = close_at at
close_expr (expr.DoubleCell at inner) = close_at at
close_expr (expr.Imm n) = ((λ _. tt), (λ _. refl))
close_expr (expr.Sum at s) = Decides-and (is_close_at at) (is_close_side s) (close_at at) (close_side s)
close_expr (expr.Diff at s) = Decides-and (is_close_at at) (is_close_side s) (close_at at) (close_side s)
close_expr (expr.Product at s) = Decides-and (is_close_at at) (is_close_side s) (close_at at) (close_side s)

pub close_all : (cells : List CellExpr) → Decides (list_all is_close cells) (All IsCloseExpr cells)
close_all cells = Decides-by_and is_close IsCloseExpr (list_all is_close) close_expr refl (λ x xs. refl) cells

one_close : (b : Bool) (v : ℕ) (later : Option ℕ) → cond b later (Some v) ≡ None → (b ≡ true) × (later ≡ None)
one_close true v later is = (refl, is)
one_close false v later is = absurd (none-some v (sym is))

pub none_far : (args : List Argument) → first_far args ≡ None → All IsCloseExpr (joined args)
none_far [] is = All-nil IsCloseExpr
none_far (x ∷ xs) is =
    let parts = one_close (list_all is_close x.1) x.0 (first_far xs) is in
    All-append IsCloseExpr x.1 (joined xs) ((close_all x.1).0 parts.0) (none_far xs parts.1)

mapped_none : {A B : Type 0} (f : A → B) (o : Option A) → option_map f o ≡ None → o ≡ None
mapped_none f None is = refl
mapped_none f (Some x) is = absurd (none-some (f x) (sym is))

pub no_far_fault : (s : ℕ) (args : List Argument) → far_fault s args ≡ None → All IsCloseExpr (joined args)
no_far_fault s args is = none_far args (mapped_none (OffsetTooFar s) (first_far args) is)

append_parts : (xs ys : List CellExpr) → All IsCloseExpr (xs ++ ys) → All IsCloseExpr xs × All IsCloseExpr ys
append_parts [] ys all = (All-nil IsCloseExpr, all)
append_parts (x ∷ xs) ys all =
    let later = append_parts xs ys (All-tail IsCloseExpr x (xs ++ ys) all) in
    (All-cons IsCloseExpr x xs (All-head IsCloseExpr x (xs ++ ys) all) later.0, later.1)

pub far_of : (args : List Argument) → All IsCloseExpr (joined args) → first_far args ≡ None
far_of [] all = refl
far_of (x ∷ xs) all =
    let parts = append_parts x.1 (joined xs) all in
    ap (λ b. cond b (first_far xs) (Some x.0)) ((close_all x.1).1 parts.0) ∙ far_of xs parts.1
