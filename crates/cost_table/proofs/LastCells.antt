-- The new cells of a branch are the last ones below ap.
use Rattle.std.proofs.Common.{◌≡◌, ℕ, zero, suc, ◌+◌, ◌-◌, ◌<◌, ◌==◌, false, List, [], ◌∷◌, ◌++◌, map, length, Some, None, refl, ap, ◌∙◌, arith}
use Rattle.std.specs.List.{range_with_len}
use Rattle.std.proofs.lemmas.Bool.Decides.{nat_tests}
use Rattle.type_trees.specs.Ty.{size}
use Rattle.type_trees.specs.declared.num.Num.TheVariants as nums
use Rattle.libfunc_registry.specs.Control as controls
use Rattle.libfunc_registry.specs.Gas as gases
use Rattle.libfunc_registry.specs.Felts as felt
use Rattle.libfunc_registry.specs.Integers as integer
use Rattle.libfunc_registry.specs.Data as datas
use Rattle.libfunc_registry.specs.Data.{part_at}
use Rattle.libfunc_registry.specs.Arrays as array
use Rattle.libfunc_registry.specs.Dictionaries as dictionary
use Rattle.libfunc_registry.specs.Fam.{Fam, control, gas, felts, integers, data_, arrays, dictionaries, gives}
use Rattle.casm_word.specs.declared.cell_expr.CellExpr.{CellExpr}
use Rattle.cell_terms.specs.declared.term.Slot.TheVariants as slots
use Rattle.cell_terms.specs.declared.term.Term.{Term}
use Rattle.cell_terms.specs.declared.term.Term.TheVariants as terms
use Rattle.cost_table.specs.Terms.{further, run}
use Rattle.cost_table.specs.Results.{branch_types, cells_of, moved_by, result_terms}
use Rattle.cost_table.specs.NewCells.{own_cell, own_cells, once, once_behind, with_cell, AreLast}

above_differs : (j k : ℕ) → k < j → j == k ≡ false
above_differs j k above = grind (arith, nat_tests)

once_rising : (a m k : ℕ) → k < a → once_behind k (range_with_len a m) ≡ range_with_len a m
once_rising a zero k below = refl
once_rising a (suc m) k below = rw (above_differs a k below) (ap (λ ks. a ∷ ks) (once_rising (a + 1) m a (omega arith)))

once_range : (a m : ℕ) → once (range_with_len a m) ≡ range_with_len a m
once_range a zero = refl
once_range a (suc m) = ap (λ ks. a ∷ ks) (once_rising (a + 1) m a (omega arith))

own_of : (ks : List ℕ) → own_cells (map (further (terms.Cell (slots.Own 0))) ks) ≡ ks
own_of [] = refl
own_of (k ∷ ks) = let a : 0 + k ≡ k = omega arith in let b = own_of ks in cc

-- cells from ap on as it was, where ap has moved past them all
laid_last : (m : ℕ) → AreLast m (run (terms.Cell (slots.Own 0)) m)
laid_last m = record {
  count = m;
  within = omega arith;
  last = ap once (own_of (range_with_len 0 m)) ∙ once_range 0 m ∙ ap (λ a. range_with_len a m) (zero_gap m);
}
  where
    zero_gap : (n : ℕ) → 0 ≡ n - n
    zero_gap n = omega arith

none_own : (t : Term) → ((k : ℕ) → own_cell (further t k) ≡ None) → (ks : List ℕ) → own_cells (map (further t) ks) ≡ []
none_own t other [] = refl
none_own t other (k ∷ ks) = let a = other k in let b = none_own t other ks in cc

none_together : (xs ys : List Term) → own_cells xs ≡ [] → own_cells ys ≡ [] → own_cells (xs ++ ys) ≡ []
none_together [] ys first rest = rest
none_together (x ∷ xs) ys first rest =
    elim (own_cell x) as (λ o. with_cell o (own_cells xs) ≡ [] → with_cell o (own_cells (xs ++ ys)) ≡ []) [
      | Some k ↦ λ e. cc
      | None ↦ λ e. none_together xs ys e rest
    ] first

no_new : (change : ℕ) (ts : List Term) → own_cells ts ≡ [] → AreLast change ts
no_new change ts none = record { count = 0; within = omega arith; last = ap once none }

kept_none : (from n : ℕ) → own_cells (run (terms.Whole from) n) ≡ []
kept_none from n = none_own (terms.Whole from) (λ k. refl) (range_with_len 0 n)

framed_none : (from n : ℕ) → own_cells (run (terms.Cell (slots.Frame from)) n) ≡ []
framed_none from n = none_own (terms.Cell (slots.Frame from)) (λ k. refl) (range_with_len 0 n)

pointed_none : (n : ℕ) → own_cells (run (terms.Behind (slots.Arg 0) 0) n) ≡ []
pointed_none n = none_own (terms.Behind (slots.Arg 0) 0) (λ k. refl) (range_with_len 0 n)

zeros_none : (n : ℕ) → own_cells (run (terms.Word 0) n) ≡ []
zeros_none n = none_own (terms.Word 0) (λ k. refl) (range_with_len 0 n)

pub new_are_last : (args : List CellExpr) (amount : ℕ) (fam : Fam) (branch : ℕ) → branch < length (gives fam)
    → AreLast (moved_by fam branch) (result_terms args amount fam branch)
new_are_last args amount (control controls.branch_align) branch within = record { count = 0; within = omega arith; last = refl }
new_are_last args amount (control controls.jump) branch within = record { count = 0; within = omega arith; last = refl }
new_are_last args amount (control (controls.rename ty)) branch within = no_new _ _ (kept_none 0 (size ty))
new_are_last args amount (control (controls.dup ty)) branch within = no_new _ _ (none_together (run (terms.Whole 0) (size ty)) (run (terms.Whole 0) (size ty)) (kept_none 0 (size ty)) (kept_none 0 (size ty)))
new_are_last args amount (control (controls.drop ty)) branch within = record { count = 0; within = omega arith; last = refl }
new_are_last args amount (control (controls.store_temp ty)) branch within = laid_last (size ty)
new_are_last args amount (control (controls.store_local ty)) branch within = no_new _ _ (kept_none 0 (size ty))
new_are_last args amount (control (controls.alloc_local ty)) branch within = no_new _ _ (framed_none amount (size ty))
new_are_last args amount (control controls.finalize_locals) branch within = record { count = 0; within = omega arith; last = refl }
new_are_last args amount (control controls.disable_ap_tracking) branch within = record { count = 0; within = omega arith; last = refl }
new_are_last args amount (control controls.enable_ap_tracking) branch within = record { count = 0; within = omega arith; last = refl }
new_are_last args amount (gas (gases.function_call f params results)) branch within = laid_last (cells_of (branch_types (gas (gases.function_call f params results)) branch))
new_are_last args amount (gas gases.withdraw_gas) zero within = record { count = 1; within = omega arith; last = refl }
new_are_last args amount (gas gases.withdraw_gas) (suc zero) within = record { count = 0; within = omega arith; last = refl }
new_are_last args amount (gas gases.withdraw_gas) (suc (suc branch)) within = absurd (omega arith)
new_are_last args amount (felts (felt.const num n)) branch within = record { count = 0; within = omega arith; last = refl }
new_are_last args amount (felts felt.felt64_add) branch within = record { count = 0; within = omega arith; last = refl }
new_are_last args amount (felts felt.felt64_sub) branch within = record { count = 0; within = omega arith; last = refl }
new_are_last args amount (felts felt.felt64_mul) branch within = record { count = 0; within = omega arith; last = refl }
new_are_last args amount (felts (felt.is_zero num)) zero within = record { count = 0; within = omega arith; last = refl }
new_are_last args amount (felts (felt.is_zero num)) (suc zero) within = record { count = 0; within = omega arith; last = refl }
new_are_last args amount (felts (felt.is_zero num)) (suc (suc branch)) within = absurd (omega arith)
new_are_last args amount (felts (felt.unwrap_non_zero num)) branch within = record { count = 0; within = omega arith; last = refl }
new_are_last args amount (integers (integer.to_felt64 w)) branch within = record { count = 0; within = omega arith; last = refl }
new_are_last args amount (integers (integer.try_from_felt64 w)) zero within = record { count = 0; within = omega arith; last = refl }
new_are_last args amount (integers (integer.try_from_felt64 w)) (suc zero) within = record { count = 0; within = omega arith; last = refl }
new_are_last args amount (integers (integer.try_from_felt64 w)) (suc (suc branch)) within = absurd (omega arith)
new_are_last args amount (integers (integer.overflowing_add w)) branch within = record { count = 1; within = omega arith; last = refl }
new_are_last args amount (integers (integer.overflowing_sub w)) zero within = record { count = 1; within = omega arith; last = refl }
new_are_last args amount (integers (integer.overflowing_sub w)) (suc zero) within = record { count = 1; within = omega arith; last = refl }
new_are_last args amount (integers (integer.overflowing_sub w)) (suc (suc branch)) within = absurd (omega arith)
new_are_last args amount (integers (integer.wide_mul w)) branch within = record { count = 0; within = omega arith; last = refl }
new_are_last args amount (integers integer.split_mul) branch within = record { count = 2; within = omega arith; last = refl }
new_are_last args amount (integers (integer.safe_divmod w)) branch within = record { count = 2; within = omega arith; last = refl }
new_are_last args amount (integers (integer.eq w)) branch within = record { count = 0; within = omega arith; last = refl }
new_are_last args amount (integers (integer.upcast a b)) branch within = record { count = 0; within = omega arith; last = refl }
new_are_last args amount (integers (integer.downcast a b)) zero within = record { count = 0; within = omega arith; last = refl }
new_are_last args amount (integers (integer.downcast a b)) (suc zero) within = record { count = 0; within = omega arith; last = refl }
new_are_last args amount (integers (integer.downcast a b)) (suc (suc branch)) within = absurd (omega arith)
new_are_last args amount (data_ (datas.enum_init ty index)) branch within = no_new _ _ (none_together (run (terms.Word 0) (size ty - (1 + size (part_at ty index)))) (run (terms.Whole 0) (size (part_at ty index)))
    (zeros_none (size ty - (1 + size (part_at ty index)))) (kept_none 0 (size (part_at ty index))))
new_are_last args amount (data_ (datas.enum_match ty)) branch within = no_new _ _ (kept_none (size ty - size (part_at ty branch)) (size (part_at ty branch)))
new_are_last args amount (data_ (datas.enum_snapshot_match ty)) branch within = no_new _ _ (kept_none (size ty - size (part_at ty branch)) (size (part_at ty branch)))
new_are_last args amount (data_ (datas.struct_construct ty)) branch within = no_new _ _ (kept_none 0 (size ty))
new_are_last args amount (data_ (datas.struct_deconstruct ty)) branch within = no_new _ _ (kept_none 0 (size ty))
new_are_last args amount (data_ (datas.struct_snapshot_deconstruct ty)) branch within = no_new _ _ (kept_none 0 (size ty))
new_are_last args amount (data_ (datas.snapshot_take ty)) branch within = no_new _ _ (none_together (run (terms.Whole 0) (size ty)) (run (terms.Whole 0) (size ty)) (kept_none 0 (size ty)) (kept_none 0 (size ty)))
new_are_last args amount (data_ (datas.into_box ty)) branch within = record { count = 1; within = omega arith; last = refl }
new_are_last args amount (data_ (datas.unbox ty)) branch within = no_new _ _ (pointed_none (size ty))
new_are_last args amount (arrays (array.array_new ty)) branch within = record { count = 1; within = omega arith; last = refl }
new_are_last args amount (arrays (array.array_append ty)) branch within = record { count = 0; within = omega arith; last = refl }
new_are_last args amount (arrays (array.array_len ty)) branch within = record { count = 1; within = omega arith; last = refl }
new_are_last args amount (arrays (array.array_get ty)) zero within = record { count = 1; within = omega arith; last = refl }
new_are_last args amount (arrays (array.array_get ty)) (suc zero) within = record { count = 0; within = omega arith; last = refl }
new_are_last args amount (arrays (array.array_get ty)) (suc (suc branch)) within = absurd (omega arith)
new_are_last args amount (arrays (array.array_pop_front ty)) zero within = record { count = 0; within = omega arith; last = refl }
new_are_last args amount (arrays (array.array_pop_front ty)) (suc zero) within = record { count = 0; within = omega arith; last = refl }
new_are_last args amount (arrays (array.array_pop_front ty)) (suc (suc branch)) within = absurd (omega arith)
new_are_last args amount (dictionaries (dictionary.dict_new num)) branch within = record { count = 1; within = omega arith; last = refl }
new_are_last args amount (dictionaries (dictionary.dict_entry_get nums.Felt64)) branch within = record { count = 1; within = omega arith; last = refl }
new_are_last args amount (dictionaries (dictionary.dict_entry_get nums.U8)) branch within = record { count = 1; within = omega arith; last = refl }
new_are_last args amount (dictionaries (dictionary.dict_entry_get nums.U16)) branch within = record { count = 1; within = omega arith; last = refl }
new_are_last args amount (dictionaries (dictionary.dict_entry_get nums.U32)) branch within = record { count = 1; within = omega arith; last = refl }
new_are_last args amount (dictionaries (dictionary.dict_entry_finalize num)) branch within = record { count = 0; within = omega arith; last = refl }
new_are_last args amount (dictionaries (dictionary.dict_squash num)) branch within = laid_last (cells_of (branch_types (dictionaries (dictionary.dict_squash num)) branch))
new_are_last args amount (dictionaries (dictionary.dict_entries num)) branch within = record { count = 0; within = omega arith; last = refl }
