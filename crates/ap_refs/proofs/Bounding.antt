-- How far a statement moves ap, and how large its amount is.
use Rattle.std.proofs.Common.{◌≡◌, ℕ, zero, suc, ◌+◌, ◌*◌, ◌-◌, ◌^◌, ◌<◌, ◌≤◌, Bool, true, false, cond, eqb, leb, min, length, List, [], ◌∷◌, Option, Some, None, IfSome, refl, sym, ap, subst, ◌∙◌, arith, inl, inr, ◌⊎◌}
use Rattle.std.proofs.lemmas.Bool.{cases_eq, leb-true}
use Rattle.std.proofs.lemmas.Option.{none-some, same_Some}
use Rattle.type_trees.specs.Ty.{Ty, size}
use Rattle.type_trees.specs.declared.num.Num.{Num}
use Rattle.type_trees.specs.declared.num.Num.TheVariants as nums
use Rattle.type_table.specs.View.{TypesView, FunctionView, IsTable, tree_of, trees_of}
use Rattle.std.specs.List.{slice_get, slice_index_or}
use Rattle.std.specs.Option.{option_map_or}
use Rattle.cost_table.specs.Results.{cells_of, moved, moved_by}
use Rattle.type_table.specs.Trees.{parts}
use Rattle.libfunc_registry.specs.declared.libfunc.Libfunc.{Libfunc}
use Rattle.libfunc_registry.specs.declared.libfunc.Libfunc.TheVariants as libfuncs
use Rattle.libfunc_registry.specs.Fam.{fam_of}
use Rattle.libfunc_registry.specs.Wanted.{IsPlaced}
use Rattle.cost_table.specs.Rows.{row, free, by_branch, match_row}
use Rattle.cost_table.specs.Dictionaries.{entry_row}
use Rattle.cost_table.proofs.FewCells.{size_few}
use Rattle.ap_refs.specs.declared.place.Locals.{Locals}
use Rattle.ap_refs.specs.declared.place.Locals.TheVariants.{Before, Allocating, Done}
use Rattle.ap_refs.specs.Bounds.{most_moved, most_statements, AreFewLocals, HasFewCells}
use Rattle.ap_refs.specs.Locals.{Step, size_of, allocate, finalize, store, local_step}
use Rattle.ap_refs.specs.Moves.{known, change, further}

-- at most so far, where it is known how far
abbrev pub IsShort : Option ℕ → Type 0
IsShort moved = IfSome moved (λ n. n ≤ 1048575)

cond_short : (b : Bool) (s c n u d m : ℕ) → n ≤ 1048575 → m ≤ 1048575 → IsShort (known (cond b (row s c n) (row u d m)).ap)
cond_short true s c n u d m first second = first
cond_short false s c n u d m first second = second

match_short : (variants k : ℕ) → k ≤ 1048575 → IsShort (known (match_row variants k).ap)
match_short variants k few = cond_short (leb variants 1) 0 0 0 (2 + 2 * min k (variants - 2)) 0 (min k (variants - 2)) (omega arith) (omega arith)

entry_short : (num : Num) → IsShort (known (entry_row num).ap)
entry_short nums.Felt64 = omega arith
entry_short nums.U8 = omega arith
entry_short nums.U16 = omega arith
entry_short nums.U32 = omega arith

either : (moved : Option ℕ) (amount : ℕ) → IsShort moved → IfSome moved (λ n. (n ≤ 1048575) ⊎ (n ≡ amount))
either None amount short = tt
either (Some n) amount short = inl short

-- a statement whose amount is `amount` moves ap by that, or by fewer than 2 ^ 20 cells
pub change_short : (t : TypesView) → IsTable t → (libfunc : Libfunc) → IsPlaced t libfunc → (amount k : ℕ) → k ≤ 1048575 → IfSome (change t libfunc amount k) (λ n. (n ≤ 1048575) ⊎ (n ≡ amount))
change_short t kept libfuncs.BranchAlign placed amount k few = inl (omega arith)
change_short t kept libfuncs.Jump placed amount k few = inl (omega arith)
change_short t kept (libfuncs.Rename ty) placed amount k few = inl (omega arith)
change_short t kept (libfuncs.Dup ty) placed amount k few = inl (omega arith)
change_short t kept (libfuncs.Drop ty) placed amount k few = inl (omega arith)
change_short t kept (libfuncs.StoreTemp ty) placed amount k few = inl (let small = size_few t kept ty.0 placed in omega arith)
change_short t kept (libfuncs.StoreLocal ty) placed amount k few = inl (omega arith)
change_short t kept (libfuncs.AllocLocal ty) placed amount k few = inl (omega arith)
change_short t kept libfuncs.FinalizeLocals placed amount k few = inr refl
change_short t kept libfuncs.DisableApTracking placed amount k few = tt
change_short t kept libfuncs.EnableApTracking placed amount k few = inl (omega arith)
change_short t kept (libfuncs.FunctionCall callee) placed amount k few = tt
change_short t kept libfuncs.WithdrawGas placed amount k few = either (known (by_branch k (row 5 1 4) (row 7 1 4)).ap) amount (cond_short (eqb k 0) 5 1 4 7 1 4 (omega arith) (omega arith))
change_short t kept (libfuncs.Const num word) placed amount k few = inl (omega arith)
change_short t kept libfuncs.FeltAdd placed amount k few = inl (omega arith)
change_short t kept libfuncs.FeltSub placed amount k few = inl (omega arith)
change_short t kept libfuncs.FeltMul placed amount k few = inl (omega arith)
change_short t kept (libfuncs.IsZero num) placed amount k few = inl (omega arith)
change_short t kept (libfuncs.UnwrapNonZero num) placed amount k few = inl (omega arith)
change_short t kept (libfuncs.ToFelt w) placed amount k few = inl (omega arith)
change_short t kept (libfuncs.TryFromFelt w) placed amount k few = either (known (by_branch k (row 6 2 6) (row 12 3 6)).ap) amount (cond_short (eqb k 0) 6 2 6 12 3 6 (omega arith) (omega arith))
change_short t kept (libfuncs.OverflowingAdd w) placed amount k few = inl (omega arith)
change_short t kept (libfuncs.OverflowingSub w) placed amount k few = either (known (by_branch k (row 5 1 5) (row 8 1 5)).ap) amount (cond_short (eqb k 0) 5 1 5 8 1 5 (omega arith) (omega arith))
change_short t kept (libfuncs.WideMul w) placed amount k few = inl (omega arith)
change_short t kept libfuncs.SplitMul placed amount k few = inl (omega arith)
change_short t kept (libfuncs.SafeDivmod w) placed amount k few = inl (omega arith)
change_short t kept (libfuncs.WidthEq w) placed amount k few = inl (omega arith)
change_short t kept (libfuncs.Upcast w v) placed amount k few = inl (omega arith)
change_short t kept (libfuncs.Downcast w v) placed amount k few = inl (omega arith)
change_short t kept (libfuncs.EnumInit ty index) placed amount k few = inl (omega arith)
change_short t kept (libfuncs.EnumMatch ty) placed amount k few = either (known (match_row (length (parts (tree_of t ty.0))) k).ap) amount (match_short (length (parts (tree_of t ty.0))) k few)
change_short t kept (libfuncs.EnumSnapshotMatch ty) placed amount k few = either (known (match_row (length (parts (tree_of t ty.0))) k).ap) amount (match_short (length (parts (tree_of t ty.0))) k few)
change_short t kept (libfuncs.StructConstruct ty) placed amount k few = inl (omega arith)
change_short t kept (libfuncs.StructDeconstruct ty) placed amount k few = inl (omega arith)
change_short t kept (libfuncs.StructSnapshotDeconstruct ty) placed amount k few = inl (omega arith)
change_short t kept (libfuncs.SnapshotTake ty) placed amount k few = inl (omega arith)
change_short t kept (libfuncs.IntoBox ty) placed amount k few = inl (omega arith)
change_short t kept (libfuncs.Unbox ty) placed amount k few = inl (omega arith)
change_short t kept (libfuncs.ArrayNew ty) placed amount k few = inl (omega arith)
change_short t kept (libfuncs.ArrayAppend ty) placed amount k few = inl (omega arith)
change_short t kept (libfuncs.ArrayLen ty) placed amount k few = inl (omega arith)
change_short t kept (libfuncs.ArrayGet ty) placed amount k few = either (known (by_branch k (row 10 1 7) (row 7 1 7)).ap) amount (cond_short (eqb k 0) 10 1 7 7 1 7 (omega arith) (omega arith))
change_short t kept (libfuncs.ArrayPopFront ty) placed amount k few = inl (omega arith)
change_short t kept (libfuncs.DictNew num) placed amount k few = inl (omega arith)
change_short t kept (libfuncs.DictEntryGet num) placed amount k few = either (known (entry_row num).ap) amount (entry_short num)
change_short t kept (libfuncs.DictEntryFinalize num) placed amount k few = inl (omega arith)
change_short t kept (libfuncs.DictSquash num) placed amount k few = tt
change_short t kept (libfuncs.DictEntries num) placed amount k few = inl (omega arith)

-- the amount, and the locals behind the statement

cond_step : (b : Bool) (x y : Step) → cond b (Some x) None ≡ Some y → x ≡ y
cond_step true x y is = same_Some x y is
cond_step false x y is = absurd (none-some y is)

-- with n statements done the amount is at most so large, and with one more the local state is as small
abbrev pub IsFewStep : ℕ → Option ℕ → Step → Type 0
IsFewStep n moved step = (step.1 ≤ n * 1048575) × AreFewLocals (n + 1) moved step.0

allocate_few : (n cells : ℕ) (ap : Option ℕ) (locals : Locals) (step : Step) → cells ≤ 2 ^ 14 → AreFewLocals n ap locals → allocate cells ap locals ≡ Some step → (moved : Option ℕ) → IsFewStep n moved step
allocate_few n cells None locals step small few is moved = absurd (none-some step is)
allocate_few n cells (Some ap) Before step small few is moved =
    subst (IsFewStep n moved) (same_Some (Allocating ap cells, ap) step is) (few, omega arith)
allocate_few n cells (Some ap) (Allocating start before) step small few is moved =
    subst (IsFewStep n moved) (cond_step (eqb ap start) (Allocating start (before + cells), start + before) step is) (few, omega arith)
allocate_few n cells (Some ap) Done step small few is moved = absurd (none-some step is)

finalize_few : (n : ℕ) (ap : Option ℕ) (locals : Locals) (step : Step) → AreFewLocals n ap locals → finalize ap locals ≡ Some step → (moved : Option ℕ) → IsFewStep n moved step
finalize_few n ap Before step few is moved = subst (IsFewStep n moved) (same_Some (Done, 0) step is) (omega arith, tt)
finalize_few n None (Allocating start cells) step few is moved = absurd (none-some step is)
finalize_few n (Some ap) (Allocating start cells) step few is moved = subst (IsFewStep n moved) (cond_step (eqb ap start) (Done, cells) step is) (omega arith, tt)
finalize_few n ap Done step few is moved = absurd (none-some step is)

store_few : (n : ℕ) (locals : Locals) (step : Step) → store locals ≡ Some step → (moved : Option ℕ) → IsFewStep n moved step
store_few n Before step is moved = absurd (none-some step is)
store_few n (Allocating start cells) step is moved = absurd (none-some step is)
store_few n Done step is moved = subst (IsFewStep n moved) (same_Some (Done, 0) step is) (omega arith, tt)

none_few : (n : ℕ) (locals : Locals) (step : Step) → Some (locals, 0) ≡ Some step → step.1 ≤ n * 1048575
none_few n locals step is = subst (λ (x : Step). x.1 ≤ n * 1048575) (same_Some (locals, 0) step is) (omega arith)

pub amount_few : (t : TypesView) → IsTable t → (libfunc : Libfunc) → IsPlaced t libfunc → (n : ℕ) (ap : Option ℕ) (locals : Locals) (step : Step) → AreFewLocals n ap locals → local_step t libfunc ap locals ≡ Some step → step.1 ≤ n * 1048575
amount_few t kept libfuncs.BranchAlign placed n ap locals step few is = none_few n locals step is
amount_few t kept libfuncs.Jump placed n ap locals step few is = none_few n locals step is
amount_few t kept (libfuncs.Rename ty) placed n ap locals step few is = none_few n locals step is
amount_few t kept (libfuncs.Dup ty) placed n ap locals step few is = none_few n locals step is
amount_few t kept (libfuncs.Drop ty) placed n ap locals step few is = none_few n locals step is
amount_few t kept (libfuncs.StoreTemp ty) placed n ap locals step few is = none_few n locals step is
amount_few t kept (libfuncs.StoreLocal ty) placed n ap locals step few is = (store_few n locals step is ap).0
amount_few t kept (libfuncs.AllocLocal ty) placed n ap locals step few is = (allocate_few n (size_of t ty) ap locals step (size_few t kept ty.0 placed) few is ap).0
amount_few t kept libfuncs.FinalizeLocals placed n ap locals step few is = (finalize_few n ap locals step few is ap).0
amount_few t kept libfuncs.DisableApTracking placed n ap locals step few is = none_few n locals step is
amount_few t kept libfuncs.EnableApTracking placed n ap locals step few is = none_few n locals step is
amount_few t kept (libfuncs.FunctionCall callee) placed n ap locals step few is = none_few n locals step is
amount_few t kept libfuncs.WithdrawGas placed n ap locals step few is = none_few n locals step is
amount_few t kept (libfuncs.Const num word) placed n ap locals step few is = none_few n locals step is
amount_few t kept libfuncs.FeltAdd placed n ap locals step few is = none_few n locals step is
amount_few t kept libfuncs.FeltSub placed n ap locals step few is = none_few n locals step is
amount_few t kept libfuncs.FeltMul placed n ap locals step few is = none_few n locals step is
amount_few t kept (libfuncs.IsZero num) placed n ap locals step few is = none_few n locals step is
amount_few t kept (libfuncs.UnwrapNonZero num) placed n ap locals step few is = none_few n locals step is
amount_few t kept (libfuncs.ToFelt w) placed n ap locals step few is = none_few n locals step is
amount_few t kept (libfuncs.TryFromFelt w) placed n ap locals step few is = none_few n locals step is
amount_few t kept (libfuncs.OverflowingAdd w) placed n ap locals step few is = none_few n locals step is
amount_few t kept (libfuncs.OverflowingSub w) placed n ap locals step few is = none_few n locals step is
amount_few t kept (libfuncs.WideMul w) placed n ap locals step few is = none_few n locals step is
amount_few t kept libfuncs.SplitMul placed n ap locals step few is = none_few n locals step is
amount_few t kept (libfuncs.SafeDivmod w) placed n ap locals step few is = none_few n locals step is
amount_few t kept (libfuncs.WidthEq w) placed n ap locals step few is = none_few n locals step is
amount_few t kept (libfuncs.Upcast w v) placed n ap locals step few is = none_few n locals step is
amount_few t kept (libfuncs.Downcast w v) placed n ap locals step few is = none_few n locals step is
amount_few t kept (libfuncs.EnumInit ty index) placed n ap locals step few is = none_few n locals step is
amount_few t kept (libfuncs.EnumMatch ty) placed n ap locals step few is = none_few n locals step is
amount_few t kept (libfuncs.EnumSnapshotMatch ty) placed n ap locals step few is = none_few n locals step is
amount_few t kept (libfuncs.StructConstruct ty) placed n ap locals step few is = none_few n locals step is
amount_few t kept (libfuncs.StructDeconstruct ty) placed n ap locals step few is = none_few n locals step is
amount_few t kept (libfuncs.StructSnapshotDeconstruct ty) placed n ap locals step few is = none_few n locals step is
amount_few t kept (libfuncs.SnapshotTake ty) placed n ap locals step few is = none_few n locals step is
amount_few t kept (libfuncs.IntoBox ty) placed n ap locals step few is = none_few n locals step is
amount_few t kept (libfuncs.Unbox ty) placed n ap locals step few is = none_few n locals step is
amount_few t kept (libfuncs.ArrayNew ty) placed n ap locals step few is = none_few n locals step is
amount_few t kept (libfuncs.ArrayAppend ty) placed n ap locals step few is = none_few n locals step is
amount_few t kept (libfuncs.ArrayLen ty) placed n ap locals step few is = none_few n locals step is
amount_few t kept (libfuncs.ArrayGet ty) placed n ap locals step few is = none_few n locals step is
amount_few t kept (libfuncs.ArrayPopFront ty) placed n ap locals step few is = none_few n locals step is
amount_few t kept (libfuncs.DictNew num) placed n ap locals step few is = none_few n locals step is
amount_few t kept (libfuncs.DictEntryGet num) placed n ap locals step few is = none_few n locals step is
amount_few t kept (libfuncs.DictEntryFinalize num) placed n ap locals step few is = none_few n locals step is
amount_few t kept (libfuncs.DictSquash num) placed n ap locals step few is = none_few n locals step is
amount_few t kept (libfuncs.DictEntries num) placed n ap locals step few is = none_few n locals step is

-- behind a libfunc that leaves the locals as they are
pass_on : (n : ℕ) (ap : Option ℕ) (locals : Locals) (moved : Option ℕ) → AreFewLocals n ap locals → IfSome moved (λ d. (d ≤ 1048575) ⊎ (d ≡ 0)) → AreFewLocals (n + 1) (further ap moved) locals
pass_on n None Before moved few short = tt
pass_on n (Some a) Before None few short = tt
pass_on n (Some a) Before (Some d) few (inl short) = omega (arith, few, short)
pass_on n (Some a) Before (Some d) few (inr same) = omega (arith, few, same)
pass_on n ap (Allocating start cells) moved few short = omega (arith, few)
pass_on n ap Done moved few short = tt

pass_few : (n : ℕ) (ap : Option ℕ) (locals : Locals) (step : Step) (moved : Option ℕ) → AreFewLocals n ap locals → Some (locals, 0) ≡ Some step → IfSome moved (λ d. (d ≤ 1048575) ⊎ (d ≡ step.1)) → AreFewLocals (n + 1) (further ap moved) step.0
pass_few n ap locals step moved few is short =
    let same = same_Some (locals, 0) step is in
    subst (λ (x : Step). AreFewLocals (n + 1) (further ap moved) x.0) same (pass_on n ap locals moved few (subst (λ (x : Step). IfSome moved (λ d. (d ≤ 1048575) ⊎ (d ≡ x.1))) (sym same) short))

pub locals_few : (t : TypesView) → IsTable t → (libfunc : Libfunc) → IsPlaced t libfunc → (n : ℕ) (ap : Option ℕ) (locals : Locals) (step : Step) → AreFewLocals n ap locals → local_step t libfunc ap locals ≡ Some step
    → (moved : Option ℕ) → IfSome moved (λ d. (d ≤ 1048575) ⊎ (d ≡ step.1)) → AreFewLocals (n + 1) (further ap moved) step.0
locals_few t kept libfuncs.BranchAlign placed n ap locals step few is moved short = pass_few n ap locals step moved few is short
locals_few t kept libfuncs.Jump placed n ap locals step few is moved short = pass_few n ap locals step moved few is short
locals_few t kept (libfuncs.Rename ty) placed n ap locals step few is moved short = pass_few n ap locals step moved few is short
locals_few t kept (libfuncs.Dup ty) placed n ap locals step few is moved short = pass_few n ap locals step moved few is short
locals_few t kept (libfuncs.Drop ty) placed n ap locals step few is moved short = pass_few n ap locals step moved few is short
locals_few t kept (libfuncs.StoreTemp ty) placed n ap locals step few is moved short = pass_few n ap locals step moved few is short
locals_few t kept (libfuncs.StoreLocal ty) placed n ap locals step few is moved short = (store_few n locals step is (further ap moved)).1
locals_few t kept (libfuncs.AllocLocal ty) placed n ap locals step few is moved short = (allocate_few n (size_of t ty) ap locals step (size_few t kept ty.0 placed) few is (further ap moved)).1
locals_few t kept libfuncs.FinalizeLocals placed n ap locals step few is moved short = (finalize_few n ap locals step few is (further ap moved)).1
locals_few t kept libfuncs.DisableApTracking placed n ap locals step few is moved short = pass_few n ap locals step moved few is short
locals_few t kept libfuncs.EnableApTracking placed n ap locals step few is moved short = pass_few n ap locals step moved few is short
locals_few t kept (libfuncs.FunctionCall callee) placed n ap locals step few is moved short = pass_few n ap locals step moved few is short
locals_few t kept libfuncs.WithdrawGas placed n ap locals step few is moved short = pass_few n ap locals step moved few is short
locals_few t kept (libfuncs.Const num word) placed n ap locals step few is moved short = pass_few n ap locals step moved few is short
locals_few t kept libfuncs.FeltAdd placed n ap locals step few is moved short = pass_few n ap locals step moved few is short
locals_few t kept libfuncs.FeltSub placed n ap locals step few is moved short = pass_few n ap locals step moved few is short
locals_few t kept libfuncs.FeltMul placed n ap locals step few is moved short = pass_few n ap locals step moved few is short
locals_few t kept (libfuncs.IsZero num) placed n ap locals step few is moved short = pass_few n ap locals step moved few is short
locals_few t kept (libfuncs.UnwrapNonZero num) placed n ap locals step few is moved short = pass_few n ap locals step moved few is short
locals_few t kept (libfuncs.ToFelt w) placed n ap locals step few is moved short = pass_few n ap locals step moved few is short
locals_few t kept (libfuncs.TryFromFelt w) placed n ap locals step few is moved short = pass_few n ap locals step moved few is short
locals_few t kept (libfuncs.OverflowingAdd w) placed n ap locals step few is moved short = pass_few n ap locals step moved few is short
locals_few t kept (libfuncs.OverflowingSub w) placed n ap locals step few is moved short = pass_few n ap locals step moved few is short
locals_few t kept (libfuncs.WideMul w) placed n ap locals step few is moved short = pass_few n ap locals step moved few is short
locals_few t kept libfuncs.SplitMul placed n ap locals step few is moved short = pass_few n ap locals step moved few is short
locals_few t kept (libfuncs.SafeDivmod w) placed n ap locals step few is moved short = pass_few n ap locals step moved few is short
locals_few t kept (libfuncs.WidthEq w) placed n ap locals step few is moved short = pass_few n ap locals step moved few is short
locals_few t kept (libfuncs.Upcast w v) placed n ap locals step few is moved short = pass_few n ap locals step moved few is short
locals_few t kept (libfuncs.Downcast w v) placed n ap locals step few is moved short = pass_few n ap locals step moved few is short
locals_few t kept (libfuncs.EnumInit ty index) placed n ap locals step few is moved short = pass_few n ap locals step moved few is short
locals_few t kept (libfuncs.EnumMatch ty) placed n ap locals step few is moved short = pass_few n ap locals step moved few is short
locals_few t kept (libfuncs.EnumSnapshotMatch ty) placed n ap locals step few is moved short = pass_few n ap locals step moved few is short
locals_few t kept (libfuncs.StructConstruct ty) placed n ap locals step few is moved short = pass_few n ap locals step moved few is short
locals_few t kept (libfuncs.StructDeconstruct ty) placed n ap locals step few is moved short = pass_few n ap locals step moved few is short
locals_few t kept (libfuncs.StructSnapshotDeconstruct ty) placed n ap locals step few is moved short = pass_few n ap locals step moved few is short
locals_few t kept (libfuncs.SnapshotTake ty) placed n ap locals step few is moved short = pass_few n ap locals step moved few is short
locals_few t kept (libfuncs.IntoBox ty) placed n ap locals step few is moved short = pass_few n ap locals step moved few is short
locals_few t kept (libfuncs.Unbox ty) placed n ap locals step few is moved short = pass_few n ap locals step moved few is short
locals_few t kept (libfuncs.ArrayNew ty) placed n ap locals step few is moved short = pass_few n ap locals step moved few is short
locals_few t kept (libfuncs.ArrayAppend ty) placed n ap locals step few is moved short = pass_few n ap locals step moved few is short
locals_few t kept (libfuncs.ArrayLen ty) placed n ap locals step few is moved short = pass_few n ap locals step moved few is short
locals_few t kept (libfuncs.ArrayGet ty) placed n ap locals step few is moved short = pass_few n ap locals step moved few is short
locals_few t kept (libfuncs.ArrayPopFront ty) placed n ap locals step few is moved short = pass_few n ap locals step moved few is short
locals_few t kept (libfuncs.DictNew num) placed n ap locals step few is moved short = pass_few n ap locals step moved few is short
locals_few t kept (libfuncs.DictEntryGet num) placed n ap locals step few is moved short = pass_few n ap locals step moved few is short
locals_few t kept (libfuncs.DictEntryFinalize num) placed n ap locals step few is moved short = pass_few n ap locals step moved few is short
locals_few t kept (libfuncs.DictSquash num) placed n ap locals step few is moved short = pass_few n ap locals step moved few is short
locals_few t kept (libfuncs.DictEntries num) placed n ap locals step few is moved short = pass_few n ap locals step moved few is short

-- how far results are named from where ap was

moved_low : (b : Bool) (s c n u d m cells : ℕ) → n ≤ 1048575 → m ≤ 1048575 → moved (cond b (row s c n) (row u d m)).ap cells ≤ 2 ^ 62
moved_low true s c n u d m cells first second = omega (arith, first)
moved_low false s c n u d m cells first second = omega (arith, second)

match_low : (variants k cells : ℕ) → k ≤ 1048575 → moved (match_row variants k).ap cells ≤ 2 ^ 62
match_low variants k cells few = moved_low (leb variants 1) 0 0 0 (2 + 2 * min k (variants - 2)) 0 (min k (variants - 2)) cells (omega arith) (omega arith)

entry_low : (num : Num) (cells : ℕ) → moved (entry_row num).ap cells ≤ 2 ^ 62
entry_low nums.Felt64 cells = omega arith
entry_low nums.U8 cells = omega arith
entry_low nums.U16 cells = omega arith
entry_low nums.U32 cells = omega arith

-- of a single branch, and of a branch that isn't there
single_low : (tys : List Ty) (k : ℕ) → cells_of tys ≤ 2 ^ 62 → cells_of (slice_index_or (tys ∷ []) k []) ≤ 2 ^ 62
single_low tys zero few = few
single_low tys (suc k) few = omega arith

call_low : (t : TypesView) → HasFewCells t → (f : ℕ) (o : Option FunctionView) → slice_get t.functions f ≡ o → cells_of (option_map_or (λ (g : FunctionView). trees_of t g.results) o []) ≤ 2 ^ 62
call_low t few f None is = omega arith
call_low t few f (Some g) is = (let small = (few f g is).results in omega (arith, small))

pub moved_few : (t : TypesView) → IsTable t → HasFewCells t → (libfunc : Libfunc) → IsPlaced t libfunc → (k : ℕ) → k ≤ 1048575 → moved_by (fam_of t libfunc) k ≤ 2 ^ 62
moved_few t kept few libfuncs.BranchAlign placed k short = omega arith
moved_few t kept few libfuncs.Jump placed k short = omega arith
moved_few t kept few (libfuncs.Rename ty) placed k short = omega arith
moved_few t kept few (libfuncs.Dup ty) placed k short = omega arith
moved_few t kept few (libfuncs.Drop ty) placed k short = omega arith
moved_few t kept few (libfuncs.StoreTemp ty) placed k short = (let small = size_few t kept ty.0 placed in omega (arith, small))
moved_few t kept few (libfuncs.StoreLocal ty) placed k short = omega arith
moved_few t kept few (libfuncs.AllocLocal ty) placed k short = omega arith
moved_few t kept few libfuncs.FinalizeLocals placed k short = omega arith
moved_few t kept few libfuncs.DisableApTracking placed k short = omega arith
moved_few t kept few libfuncs.EnableApTracking placed k short = omega arith
moved_few t kept few (libfuncs.FunctionCall callee) placed k short = single_low (option_map_or (λ (g : FunctionView). trees_of t g.results) (slice_get t.functions callee) []) k (call_low t few callee (slice_get t.functions callee) refl)
moved_few t kept few libfuncs.WithdrawGas placed k short = moved_low (eqb k 0) 5 1 4 7 1 4 _ (omega arith) (omega arith)
moved_few t kept few (libfuncs.Const num word) placed k short = omega arith
moved_few t kept few libfuncs.FeltAdd placed k short = omega arith
moved_few t kept few libfuncs.FeltSub placed k short = omega arith
moved_few t kept few libfuncs.FeltMul placed k short = omega arith
moved_few t kept few (libfuncs.IsZero num) placed k short = omega arith
moved_few t kept few (libfuncs.UnwrapNonZero num) placed k short = omega arith
moved_few t kept few (libfuncs.ToFelt w) placed k short = omega arith
moved_few t kept few (libfuncs.TryFromFelt w) placed k short = moved_low (eqb k 0) 6 2 6 12 3 6 _ (omega arith) (omega arith)
moved_few t kept few (libfuncs.OverflowingAdd w) placed k short = omega arith
moved_few t kept few (libfuncs.OverflowingSub w) placed k short = moved_low (eqb k 0) 5 1 5 8 1 5 _ (omega arith) (omega arith)
moved_few t kept few (libfuncs.WideMul w) placed k short = omega arith
moved_few t kept few libfuncs.SplitMul placed k short = omega arith
moved_few t kept few (libfuncs.SafeDivmod w) placed k short = omega arith
moved_few t kept few (libfuncs.WidthEq w) placed k short = omega arith
moved_few t kept few (libfuncs.Upcast w v) placed k short = omega arith
moved_few t kept few (libfuncs.Downcast w v) placed k short = omega arith
moved_few t kept few (libfuncs.EnumInit ty index) placed k short = omega arith
moved_few t kept few (libfuncs.EnumMatch ty) placed k short = match_low (length (parts (tree_of t ty.0))) k _ short
moved_few t kept few (libfuncs.EnumSnapshotMatch ty) placed k short = match_low (length (parts (tree_of t ty.0))) k _ short
moved_few t kept few (libfuncs.StructConstruct ty) placed k short = omega arith
moved_few t kept few (libfuncs.StructDeconstruct ty) placed k short = omega arith
moved_few t kept few (libfuncs.StructSnapshotDeconstruct ty) placed k short = omega arith
moved_few t kept few (libfuncs.SnapshotTake ty) placed k short = omega arith
moved_few t kept few (libfuncs.IntoBox ty) placed k short = omega arith
moved_few t kept few (libfuncs.Unbox ty) placed k short = omega arith
moved_few t kept few (libfuncs.ArrayNew ty) placed k short = omega arith
moved_few t kept few (libfuncs.ArrayAppend ty) placed k short = omega arith
moved_few t kept few (libfuncs.ArrayLen ty) placed k short = omega arith
moved_few t kept few (libfuncs.ArrayGet ty) placed k short = moved_low (eqb k 0) 10 1 7 7 1 7 _ (omega arith) (omega arith)
moved_few t kept few (libfuncs.ArrayPopFront ty) placed k short = omega arith
moved_few t kept few (libfuncs.DictNew num) placed k short = omega arith
moved_few t kept few (libfuncs.DictEntryGet num) placed k short = entry_low num _
moved_few t kept few (libfuncs.DictEntryFinalize num) placed k short = omega arith
moved_few t kept few (libfuncs.DictSquash num) placed k short = single_low _ k (omega arith)
moved_few t kept few (libfuncs.DictEntries num) placed k short = omega arith
