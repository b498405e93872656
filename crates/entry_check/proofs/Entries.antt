-- The first place where a test passes; and that a program has an entry or a fault.
use Rattle.std.proofs.Common.{◌≡◌, ◌⊎◌, ℕ, ◌+◌, ◌<◌, ◌≤◌, Bool, true, false, List, [], length, Some, None, get_or, Result, Ok, Err, refl, sym, ap, subst, ◌∙◌, inl, inr, arith}
use Rattle.std.specs.Prelude.{not}
use Rattle.std.specs.List.{All, slice_get, position, position_or_len}
use Rattle.std.proofs.lemmas.List.Quantifiers.{position-Some}
use Rattle.std.proofs.lemmas.Option.{slice_get-get_or}
use Rattle.std.proofs.lemmas.Bool.Decides.{nat_tests}
use Rattle.std.proofs.lemmas.List.{get_or-map, length-map}
use Rattle.std.proofs.lemmas.List.Sums.{position_or_len_is}
use Rattle.std.proofs.Math.Nat.{eq-or-lt_of_le}
use Rattle.sierra_types.specs.declared.program.Program.{Program}
use Rattle.sierra_types.specs.declared.program.Function.{Function}
use Rattle.type_trees.specs.Ty.{range_check}
use Rattle.type_table.specs.declared.type_id.TypeId.{TypeId}
use Rattle.type_table.specs.View.{TypesView, FunctionView, IsTable, tree_of, trees_of}
use Rattle.type_table.specs.Table.{HasTypes}
use Rattle.entry_check.specs.declared.fault.EntryFault.{EntryFault}
use Rattle.entry_check.specs.Entry.{is_main_name, main_of, is_entry_type, first_other, first_of, unless_other, entry_at, entry_of}

either : (r : Result ℕ EntryFault) → ((main : ℕ) × (r ≡ Ok main)) ⊎ ((fault : EntryFault) × (r ≡ Err fault))
either (Ok main) = inl (main, refl)
either (Err fault) = inr (fault, refl)

pub entry_or_fault : (p : Program) (t : TypesView) → ((main : ℕ) × (entry_of p t ≡ Ok main)) ⊎ ((fault : EntryFault) × (entry_of p t ≡ Err fault))
entry_or_fault p t = either (entry_of p t)

module _ {X : Type 0} (p : X → Bool) (xs : List X) (d : X) where
  pub position_at : (i : ℕ) → i < length xs → ((k : ℕ) → k < i → p (get_or xs k d) ≡ false) → p (get_or xs i d) ≡ true → position p xs ≡ Some i
  position_at i lt before here =
      let at : position_or_len p xs ≡ i = position_or_len_is p xs i d (omega (arith, lt)) before (λ _. here) in
      grind (arith, nat_tests, at, lt)

  pub no_position : ((k : ℕ) → k < length xs → p (get_or xs k d) ≡ false) → position p xs ≡ None
  no_position all =
      let at : position_or_len p xs ≡ length xs = position_or_len_is p xs (length xs) d (omega arith) all (λ lt. absurd (omega (arith, lt))) in
      grind (arith, nat_tests, at)

-- what stands for an element where there is none
abbrev pub first : TypeId
first = record { 0 = 0 }

module _ (t : TypesView) (list : List TypeId) where
  -- the tree at a place of the list
  tree_here : (i : ℕ) → i < length list → get_or (trees_of t list) i range_check ≡ tree_of t (get_or list i first).0
  tree_here i lt = get_or-map (λ (x : TypeId). tree_of t x.0) list i first range_check lt

  abbrev pub AreEntryTypes : ℕ → Type 0
  AreEntryTypes i = (k : ℕ) → k < i → not (is_entry_type (get_or (trees_of t list) k range_check)) ≡ false

  pub one_more : (i : ℕ) → AreEntryTypes i → i < length list → is_entry_type (tree_of t (get_or list i first).0) ≡ true → AreEntryTypes (i + 1)
  one_more i before lt here k below = elim (eq-or-lt_of_le (omega (arith, below))) [
    | inr less ↦ before k less
    | inl same ↦ subst (λ n. not (is_entry_type (get_or (trees_of t list) n range_check)) ≡ false) (sym same) (ap not (ap is_entry_type (tree_here i lt) ∙ here))
  ]

  pub found_here : (i : ℕ) → AreEntryTypes i → i < length list → is_entry_type (tree_of t (get_or list i first).0) ≡ false → first_other (trees_of t list) ≡ Some i
  found_here i before lt other =
      position_at (λ ty. not (is_entry_type ty)) (trees_of t list) range_check i (omega (arith, lt, length-map list (λ (x : TypeId). tree_of t x.0))) before (ap not (ap is_entry_type (tree_here i lt) ∙ other))

  pub none_here : (i : ℕ) → AreEntryTypes i → length list ≤ i → first_other (trees_of t list) ≡ None
  none_here i all past =
      no_position (λ ty. not (is_entry_type ty)) (trees_of t list) range_check (λ k lt. all k (omega (arith, lt, past, length-map list (λ (x : TypeId). tree_of t x.0))))

module _ (t : TypesView) (kept : IsTable t) (main : ℕ) (lt : main < length t.functions) where
  -- the function at the place
  pub function_here : (f : FunctionView) × (slice_get t.functions main ≡ Some f)
  function_here = (get_or t.functions main (record { params = []; results = [] }), slice_get-get_or t.functions main (record { params = []; results = [] }) lt)

  -- its types, if these are they, are in the table
  pub params_below : (params : List TypeId) → ((f : FunctionView) → slice_get t.functions main ≡ Some f → params ≡ f.params) → All (λ (x : TypeId). x.0 < length t.rows) params
  params_below params are =
      let f = function_here in
      subst (All (λ (x : TypeId). x.0 < length t.rows)) (sym (are f.0 f.1)) (kept.functions_right main f.0 f.1).params

  pub results_below : (results : List TypeId) → ((f : FunctionView) → slice_get t.functions main ≡ Some f → results ≡ f.results) → All (λ (x : TypeId). x.0 < length t.rows) results
  results_below results are =
      let f = function_here in
      subst (All (λ (x : TypeId). x.0 < length t.rows)) (sym (are f.0 f.1)) (kept.functions_right main f.0 f.1).results

  -- what the two searches find is what is said of the entry
  pub entry_by : (params results : List TypeId)
      → ((f : FunctionView) → slice_get t.functions main ≡ Some f → params ≡ f.params) → ((f : FunctionView) → slice_get t.functions main ≡ Some f → results ≡ f.results)
      → unless_other (first_of (first_other (trees_of t params)) (length params) (first_other (trees_of t results))) main ≡ entry_at t (Some main)
  entry_by params results are_params are_results =
      let f = function_here in
      rw (are_params f.0 f.1, are_results f.0 f.1, f.1) refl

-- main is a function of the table
pub main_below : (p : Program) (t : TypesView) → HasTypes p t → (main : ℕ) (d : Function) → main_of p ≡ Some main → main < length t.functions
main_below p t has main d is =
    let found = position-Some (λ (f : Function). is_main_name f.id) p.functions main d is in
    omega (arith, found.0, has.kept.each_function_named, ap length has.function_ids, length-map p.functions (λ (f : Function). f.id))
