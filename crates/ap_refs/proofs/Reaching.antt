-- How far from their registers the cells of results are.
use Rattle.std.proofs.Common.{◌≡◌, ℕ, zero, suc, ◌+◌, ◌-◌, ◌*◌, ◌^◌, ◌<◌, ◌≤◌, ℤ, pos, ◌≤ℤ◌, Bool, true, false, cond, eqb, List, [], ◌∷◌, ◌++◌, map, length, Option, Some, None, refl, sym, ap, subst, ◌∙◌, arith}
use Rattle.std.specs.List.{All, range_with_len}
use Rattle.std.proofs.lemmas.Int.{ints}
use Rattle.std.proofs.lemmas.List.Elements.{All-nil, All-cons, All-head, All-tail, All-append}
use Rattle.type_trees.specs.Ty.{Ty, size}
use Rattle.type_table.specs.View.{TypesView, IsTable, tree_of}
use Rattle.libfunc_registry.specs.declared.libfunc.Libfunc.{Libfunc}
use Rattle.libfunc_registry.specs.declared.libfunc.Libfunc.TheVariants as libfuncs
use Rattle.libfunc_registry.specs.Data.{part_at}
use Rattle.libfunc_registry.specs.Fam.{Fam, fam_of}
use Rattle.libfunc_registry.specs.Wanted.{IsPlaced}
use Rattle.casm_word.specs.declared.instr.Reg.{Reg}
use Rattle.casm_word.specs.declared.instr.Reg.TheVariants as reg
use Rattle.casm_word.specs.declared.cell_expr.At.{At}
use Rattle.casm_word.specs.declared.cell_expr.Side.{Side}
use Rattle.casm_word.specs.declared.cell_expr.Side.TheVariants as side
use Rattle.casm_word.specs.declared.cell_expr.CellExpr.{CellExpr}
use Rattle.casm_word.specs.declared.cell_expr.CellExpr.TheVariants as expr
use Rattle.casm_word.specs.Expressions.{lowered_at, lowered_side, lowered}
use Rattle.cell_terms.specs.declared.term.Slot.{Slot}
use Rattle.cell_terms.specs.declared.term.Slot.TheVariants as slots
use Rattle.cell_terms.specs.declared.term.Second.{Second}
use Rattle.cell_terms.specs.declared.term.Second.TheVariants as seconds
use Rattle.cell_terms.specs.declared.term.Term.{Term}
use Rattle.cell_terms.specs.declared.term.Term.TheVariants as terms
use Rattle.cell_terms.specs.Resolving.{at_of, argument, place, side_of, resolve}
use Rattle.cost_table.specs.Fits.{IsClose, IsCloseSide, IsCloseExpr}
use Rattle.type_trees.specs.declared.num.Num.TheVariants as nums
use Rattle.cost_table.specs.Rows.{row}
use Rattle.cost_table.specs.Terms.{known_change, further, run, kept, laid, framed, pointed, zeros, operand}
use Rattle.cost_table.specs.Data.{padding}
use Rattle.cost_table.specs.Results.{cells_of, branch_types, result_terms, moved_by, results}
use Rattle.cost_table.proofs.FewCells.{size_few}
use Rattle.ap_refs.specs.Bounds.{IsWithinAt, IsWithinSide, IsWithin}

-- the cells that a term names are no further than this from their register
abbrev pub IsLowSlot : Slot → Type 0
IsLowSlot (slots.Own k) = k ≤ 2 ^ 62
IsLowSlot (slots.Arg i) = Unit {0}
IsLowSlot (slots.Frame k) = k ≤ 2 ^ 62

abbrev pub IsLowSecond : Second → Type 0
IsLowSecond (seconds.Slot n) = IsLowSlot n
IsLowSecond (seconds.Number k) = Unit {0}

abbrev pub IsLow : Term → Type 0
IsLow (terms.Whole i) = Unit {0}
IsLow (terms.Cell n) = IsLowSlot n
IsLow (terms.Behind n k) = IsLowSlot n
IsLow (terms.Word k) = Unit {0}
IsLow (terms.Add n o) = IsLowSlot n × IsLowSecond o
IsLow (terms.Sub n o) = IsLowSlot n × IsLowSecond o
IsLow (terms.Mul n o) = IsLowSlot n × IsLowSecond o

-- expressions of low terms

abbrev pub far : ℕ
far = 2 ^ 62 + 2 ^ 42

low_off : (d : ℕ) (base : Reg) (off : ℤ) → d ≤ 2 ^ 62 → IsClose (record { base = base; off = off }) → IsWithinAt far (lowered_at d (record { base = base; off = off }))
low_off d reg.Ap off few close = let a = close.least in let b = close.most in record { least = omega (arith, ints); most = omega (arith, ints) }
low_off d reg.Fp off few close = let a = close.least in let b = close.most in record { least = omega (arith, ints); most = omega (arith, ints) }

low_at : (d : ℕ) (at : At) → d ≤ 2 ^ 62 → IsClose at → IsWithinAt far (lowered_at d at)
low_at d at few close = low_off d at.base at.off few close

low_side : (d : ℕ) (s : Side) → d ≤ 2 ^ 62 → IsCloseSide s → IsWithinSide far (lowered_side d s)
low_side d (side.Cell at) few close = low_at d at few close
low_side d (side.Imm n) few close = tt

low_expr : (d : ℕ) (e : CellExpr) → d ≤ 2 ^ 62 → IsCloseExpr e → IsWithin far (lowered d e)
low_expr d (expr.Cell at) few close = low_at d at few close
low_expr d (expr.DoubleCell at inner) few close = low_at d at few close
low_expr d (expr.Imm n) few close = tt
low_expr d (expr.Sum at s) few close = (low_at d at few close.0, low_side d s few close.1)
low_expr d (expr.Diff at s) few close = (low_at d at few close.0, low_side d s few close.1)
low_expr d (expr.Product at s) few close = (low_at d at few close.0, low_side d s few close.1)

argument_close : (args : List CellExpr) (i : ℕ) → All IsCloseExpr args → IsCloseExpr (argument args i)
argument_close [] i close = tt
argument_close (e ∷ args) zero close = All-head IsCloseExpr e args close
argument_close (e ∷ args) (suc i) close = argument_close args i (All-tail IsCloseExpr e args close)

at_ap_close : IsClose (at_of (expr.Imm 0))
at_ap_close = record { least = omega (arith, ints); most = omega (arith, ints) }

cell_close : (e : CellExpr) → IsCloseExpr e → IsClose (at_of e)
cell_close (expr.Cell at) close = close
cell_close (expr.DoubleCell at inner) close = at_ap_close
cell_close (expr.Imm n) close = at_ap_close
cell_close (expr.Sum at s) close = at_ap_close
cell_close (expr.Diff at s) close = at_ap_close
cell_close (expr.Product at s) close = at_ap_close

low_slot : (d : ℕ) (args : List CellExpr) (n : Slot) → d ≤ 2 ^ 62 → All IsCloseExpr args → IsLowSlot n → IsWithinAt far (place d args n)
low_slot d args (slots.Own k) few close low = record { least = omega (arith, ints); most = omega (arith, ints) }
low_slot d args (slots.Arg i) few close low = low_at d (at_of (argument args i)) few (cell_close (argument args i) (argument_close args i close))
low_slot d args (slots.Frame k) few close low = record { least = omega (arith, ints); most = omega (arith, ints) }

low_second : (d : ℕ) (args : List CellExpr) (o : Second) → d ≤ 2 ^ 62 → All IsCloseExpr args → IsLowSecond o → IsWithinSide far (side_of d args o)
low_second d args (seconds.Slot n) few close low = low_slot d args n few close low
low_second d args (seconds.Number k) few close low = tt

low_term : (d : ℕ) (args : List CellExpr) (t : Term) → d ≤ 2 ^ 62 → All IsCloseExpr args → IsLow t → IsWithin far (resolve d args t)
low_term d args (terms.Whole i) few close low = low_expr d (argument args i) few (argument_close args i close)
low_term d args (terms.Cell n) few close low = low_slot d args n few close low
low_term d args (terms.Behind n k) few close low = low_slot d args n few close low
low_term d args (terms.Word k) few close low = tt
low_term d args (terms.Add n o) few close low = (low_slot d args n few close low.0, low_second d args o few close low.1)
low_term d args (terms.Sub n o) few close low = (low_slot d args n few close low.0, low_second d args o few close low.1)
low_term d args (terms.Mul n o) few close low = (low_slot d args n few close low.0, low_second d args o few close low.1)

pub low_terms : (d : ℕ) (args : List CellExpr) (ts : List Term) → d ≤ 2 ^ 62 → All IsCloseExpr args → All IsLow ts → All (IsWithin far) (map (resolve d args) ts)
low_terms d args [] few close low = All-nil (IsWithin far)
low_terms d args (t ∷ ts) few close low =
    All-cons (IsWithin far) (resolve d args t) (map (resolve d args) ts) (low_term d args t few close (All-head IsLow t ts low)) (low_terms d args ts few close (All-tail IsLow t ts low))

-- runs

run_from : (t : Term) (k n : ℕ) → ((i : ℕ) → i < k + n → IsLow (further t i)) → All IsLow (map (further t) (range_with_len k n))
run_from t k zero low = All-nil IsLow
run_from t k (suc n) low =
    All-cons IsLow (further t k) (map (further t) (range_with_len (k + 1) n)) (low k (omega arith)) (run_from t (k + 1) n (λ i lt. low i (omega (arith, lt))))

low_run : (t : Term) (n : ℕ) → ((i : ℕ) → i < 0 + n → IsLow (further t i)) → All IsLow (run t n)
low_run t n low = run_from t 0 n low

low_kept : (from n : ℕ) → All IsLow (kept from n)
low_kept from n = low_run (terms.Whole from) n (λ i lt. tt)

low_laid : (n : ℕ) → n ≤ 2 ^ 62 → All IsLow (laid n)
low_laid n few = low_run (terms.Cell (slots.Own 0)) n (λ i lt. omega (arith, lt, few))

low_framed : (from n : ℕ) → from + n ≤ 2 ^ 62 → All IsLow (framed from n)
low_framed from n few = low_run (terms.Cell (slots.Frame from)) n (λ i lt. omega (arith, lt, few))

low_pointed : (n : ℕ) → All IsLow (pointed n)
low_pointed n = low_run (terms.Behind (slots.Arg 0) 0) n (λ i lt. tt)

low_zeros : (n : ℕ) → All IsLow (zeros n)
low_zeros n = low_run (terms.Word 0) n (λ i lt. tt)

one : (a : Term) → IsLow a → All IsLow (a ∷ [])
one a x = All-cons IsLow a [] x (All-nil IsLow)

two : (a b : Term) → IsLow a → IsLow b → All IsLow (a ∷ b ∷ [])
two a b x y = All-cons IsLow a (b ∷ []) x (one b y)

three : (a b e : Term) → IsLow a → IsLow b → IsLow e → All IsLow (a ∷ b ∷ e ∷ [])
three a b e x y z = All-cons IsLow a (b ∷ e ∷ []) x (two b e y z)

four : (a b e h : Term) → IsLow a → IsLow b → IsLow e → IsLow h → All IsLow (a ∷ b ∷ e ∷ h ∷ [])
four a b e h x y z w = All-cons IsLow a (b ∷ e ∷ h ∷ []) x (three b e h y z w)

either : (b : Bool) (xs ys : List Term) → All IsLow xs → All IsLow ys → All IsLow (cond b xs ys)
either true xs ys first second = first
either false xs ys first second = second

low_pointer : (b : Bool) (n : ℕ) → IsLow (cond b (terms.Whole 0) (terms.Add (slots.Arg 0) (seconds.Number n)))
low_pointer true n = tt
low_pointer false n = (tt, tt)

low_last : (b : Bool) (s c n u d m : ℕ) → n ≤ 2 ^ 62 → m ≤ 2 ^ 62 → known_change (cond b (row s c n) (row u d m)).ap - 1 ≤ 2 ^ 62
low_last true s c n u d m first second = omega (arith, first)
low_last false s c n u d m first second = omega (arith, second)

low_operand : (args : List CellExpr) → IsLowSecond (operand args 1)
low_operand [] = tt
low_operand (a ∷ []) = tt
low_operand (a ∷ expr.Cell at ∷ more) = tt
low_operand (a ∷ expr.DoubleCell at inner ∷ more) = tt
low_operand (a ∷ expr.Imm n ∷ more) = tt
low_operand (a ∷ expr.Sum at s ∷ more) = tt
low_operand (a ∷ expr.Diff at s ∷ more) = tt
low_operand (a ∷ expr.Product at s ∷ more) = tt

-- the terms of each family's results are low; where nobody knows how far ap moves, as far as the results' cells are few
pub results_low : (t : TypesView) → IsTable t → (libfunc : Libfunc) → IsPlaced t libfunc → (args : List CellExpr) (amount k : ℕ) → amount ≤ 2 ^ 41 → moved_by (fam_of t libfunc) k ≤ 2 ^ 62
    → All IsLow (result_terms args amount (fam_of t libfunc) k)
results_low t table libfuncs.BranchAlign placed args amount k small few = All-nil IsLow
results_low t table libfuncs.Jump placed args amount k small few = All-nil IsLow
results_low t table (libfuncs.Rename ty) placed args amount k small few = low_kept 0 _
results_low t table (libfuncs.Dup ty) placed args amount k small few = All-append IsLow (kept 0 (size (tree_of t ty.0))) (kept 0 (size (tree_of t ty.0))) (low_kept 0 (size (tree_of t ty.0))) (low_kept 0 (size (tree_of t ty.0)))
results_low t table (libfuncs.Drop ty) placed args amount k small few = All-nil IsLow
results_low t table (libfuncs.StoreTemp ty) placed args amount k small few = (let less = size_few t table ty.0 placed in low_laid (size (tree_of t ty.0)) (omega (arith, less)))
results_low t table (libfuncs.StoreLocal ty) placed args amount k small few = low_kept 0 _
results_low t table (libfuncs.AllocLocal ty) placed args amount k small few = (let less = size_few t table ty.0 placed in low_framed amount (size (tree_of t ty.0)) (omega (arith, less, small)))
results_low t table libfuncs.FinalizeLocals placed args amount k small few = All-nil IsLow
results_low t table libfuncs.DisableApTracking placed args amount k small few = All-nil IsLow
results_low t table libfuncs.EnableApTracking placed args amount k small few = All-nil IsLow
results_low t table (libfuncs.FunctionCall callee) placed args amount k small few = low_laid _ few
results_low t table libfuncs.WithdrawGas placed args amount k small few = either (eqb k 0) _ _ (two _ _ (low_pointer _ _) (low_last (eqb k 0) 5 1 4 7 1 4 (omega arith) (omega arith))) (two _ _ (low_pointer _ _) tt)
results_low t table (libfuncs.Const num word) placed args amount k small few = one _ tt
results_low t table libfuncs.FeltAdd placed args amount k small few = one _ (tt, low_operand args)
results_low t table libfuncs.FeltSub placed args amount k small few = one _ (tt, low_operand args)
results_low t table libfuncs.FeltMul placed args amount k small few = one _ (tt, low_operand args)
results_low t table (libfuncs.IsZero num) placed args amount k small few = either (eqb k 0) _ _ (All-nil IsLow) (one _ tt)
results_low t table (libfuncs.UnwrapNonZero num) placed args amount k small few = one _ tt
results_low t table (libfuncs.ToFelt w) placed args amount k small few = one _ tt
results_low t table (libfuncs.TryFromFelt w) placed args amount k small few = either (eqb k 0) _ _ (two _ _ (low_pointer _ _) tt) (one _ (low_pointer _ _))
results_low t table (libfuncs.OverflowingAdd w) placed args amount k small few = two _ _ (tt, tt) (omega arith)
results_low t table (libfuncs.OverflowingSub w) placed args amount k small few = two _ _ (low_pointer _ _) (low_last (eqb k 0) 5 1 5 8 1 5 (omega arith) (omega arith))
results_low t table (libfuncs.WideMul w) placed args amount k small few = one _ (tt, low_operand args)
results_low t table libfuncs.SplitMul placed args amount k small few = three _ _ _ (tt, tt) (omega arith) (omega arith)
results_low t table (libfuncs.SafeDivmod w) placed args amount k small few = three _ _ _ (tt, tt) (omega arith) (omega arith)
results_low t table (libfuncs.WidthEq w) placed args amount k small few = All-nil IsLow
results_low t table (libfuncs.Upcast w v) placed args amount k small few = one _ tt
results_low t table (libfuncs.Downcast w v) placed args amount k small few = either (eqb k 0) _ _ (two _ _ (tt, tt) tt) (one _ (tt, tt))
results_low t table (libfuncs.EnumInit ty index) placed args amount k small few = All-cons IsLow (terms.Word index) ((zeros (padding (tree_of t ty.0) index)) ++ (kept 0 (size (part_at (tree_of t ty.0) index)))) tt (All-append IsLow (zeros (padding (tree_of t ty.0) index)) (kept 0 (size (part_at (tree_of t ty.0) index))) (low_zeros (padding (tree_of t ty.0) index)) (low_kept 0 (size (part_at (tree_of t ty.0) index))))
results_low t table (libfuncs.EnumMatch ty) placed args amount k small few = low_kept _ _
results_low t table (libfuncs.EnumSnapshotMatch ty) placed args amount k small few = low_kept _ _
results_low t table (libfuncs.StructConstruct ty) placed args amount k small few = low_kept 0 _
results_low t table (libfuncs.StructDeconstruct ty) placed args amount k small few = low_kept 0 _
results_low t table (libfuncs.StructSnapshotDeconstruct ty) placed args amount k small few = low_kept 0 _
results_low t table (libfuncs.SnapshotTake ty) placed args amount k small few = All-append IsLow (kept 0 (size (tree_of t ty.0))) (kept 0 (size (tree_of t ty.0))) (low_kept 0 (size (tree_of t ty.0))) (low_kept 0 (size (tree_of t ty.0)))
results_low t table (libfuncs.IntoBox ty) placed args amount k small few = one _ (omega arith)
results_low t table (libfuncs.Unbox ty) placed args amount k small few = low_pointed _
results_low t table (libfuncs.ArrayNew ty) placed args amount k small few = two _ _ (omega arith) (omega arith)
results_low t table (libfuncs.ArrayAppend ty) placed args amount k small few = two _ _ tt (tt, tt)
results_low t table (libfuncs.ArrayLen ty) placed args amount k small few = one _ (omega arith)
results_low t table (libfuncs.ArrayGet ty) placed args amount k small few = either (eqb k 0) _ _ (two _ _ (low_pointer _ _) (low_last (eqb k 0) 10 1 7 7 1 7 (omega arith) (omega arith))) (one _ (low_pointer _ _))
results_low t table (libfuncs.ArrayPopFront ty) placed args amount k small few = either (eqb k 0) _ _ (three _ _ _ (tt, tt) tt tt) (two _ _ tt tt)
results_low t table (libfuncs.DictNew num) placed args amount k small few = two _ _ (omega arith) (omega arith)
results_low t table (libfuncs.DictEntryGet nums.Felt64) placed args amount k small few = four _ _ _ _ tt tt tt (omega arith)
results_low t table (libfuncs.DictEntryGet nums.U8) placed args amount k small few = four _ _ _ _ (tt, tt) tt tt (omega arith)
results_low t table (libfuncs.DictEntryGet nums.U16) placed args amount k small few = four _ _ _ _ (tt, tt) tt tt (omega arith)
results_low t table (libfuncs.DictEntryGet nums.U32) placed args amount k small few = four _ _ _ _ (tt, tt) tt tt (omega arith)
results_low t table (libfuncs.DictEntryFinalize num) placed args amount k small few = two _ _ tt (tt, tt)
results_low t table (libfuncs.DictSquash num) placed args amount k small few = low_laid _ few
results_low t table (libfuncs.DictEntries num) placed args amount k small few = two _ _ tt tt

-- so no cell of a result is further
pub results_within : (t : TypesView) → IsTable t → (libfunc : Libfunc) → IsPlaced t libfunc → (args : List CellExpr) (amount k : ℕ) → All IsCloseExpr args → amount ≤ 2 ^ 41 → moved_by (fam_of t libfunc) k ≤ 2 ^ 62
    → All (IsWithin far) (results args amount (fam_of t libfunc) k)
results_within t table libfunc placed args amount k close small few =
    low_terms (moved_by (fam_of t libfunc) k) args (result_terms args amount (fam_of t libfunc) k) few close (results_low t table libfunc placed args amount k small few)
