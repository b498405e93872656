-- Main's parameters, and what is told of a text that is no input for them.
-- Main's parameters, and those of them that are no builtins.
use Rattle.std.proofs.Common.{◌≡◌, ◌↔◌, ℕ, suc, ◌+◌, ◌<◌, ◌≤◌, List, [], ◌∷◌, length, Bool, true, false, not, cond, Option, Some, None, Ok, Err, refl, sym, ap, subst, ◌∙◌, arith}
use Rattle.std.specs.List.{slice_get, All, AllByRecursion, position, prefix_len}
use Rattle.std.specs.Option.{option_map_or, option_and_then}
use Rattle.std.proofs.lemmas.Grind.{common_steps}
use Rattle.std.proofs.lemmas.List.{length-map}
use Rattle.std.proofs.lemmas.List.Elements.{recursion_from_All}
use Rattle.sierra_types.specs.declared.program.Program.{Program}
use Rattle.sierra_types.specs.declared.program.TypeDecl.{TypeDecl}
use Rattle.type_trees.specs.Ty.{Ty, number, nonzero, range_check, gas_builtin, box, array, snapshot, struct, enum, dict, dict_entry, squashed_dict, uninitialized, is_plain}
use Rattle.type_table.specs.IsType.{IsType}
use Rattle.type_table.specs.View.{TypesView, FunctionView, tree_of, trees_of}
use Rattle.type_table.specs.declared.type_id.TypeId.{TypeId}
use Rattle.libfunc_registry.specs.Fam.{params_of}
use Rattle.entry_check.specs.Entry.{main_of, is_entry_type, first_other, first_of, other_type, unless_other, entry_at}
use Rattle.statement_walk.proofs.Arrivals.{inside}
use Rattle.gas_solver.specs.Accepting.{AcceptedView, IsAccepted}
use Rattle.typed_values.specs.Faults.{CanBeGiven, HasFlatArrays, IsInputFault}
use Rattle.typed_values.specs.Outcome.{is_builtin, others_of}
use Rattle.typed_values.specs.Reading.{input_at}
use Rattle.typed_values.specs.declared.fault.InputFault.{InputFault}
use Rattle.program_checks.proofs.Entries.{entry_below}
use Rattle.sierra_tool.specs.Causes.{argument_types, IsNoInputOf}

-- main is in the table of functions
pub main_below : (a : AcceptedView) → IsAccepted a → a.main < length a.types.functions
main_below a ok =
    let ids : length a.types.function_ids ≡ length a.program.functions = ap length ok.types.function_ids ∙ length-map a.program.functions (λ f. f.id) in
    let count : length a.types.function_ids ≡ length a.types.functions = ok.types.kept.each_function_named in
    omega (arith, ids, count, entry_below a.program a.types a.main ok.main)

-- its parameters' types are in the table of types
pub main_parameters : (a : AcceptedView) → IsAccepted a
    → (g : FunctionView) × (slice_get a.types.functions a.main ≡ Some g) × (trees_of a.types g.params ≡ params_of a.types a.main) × All (λ t. t.0 < length a.types.rows) g.params
main_parameters a ok =
    let main = inside a.types.functions a.main (main_below a ok) in
    let found : slice_get a.types.functions a.main ≡ Some main.0 = main.1 in
    (main.0, found, sym (ap (λ o. option_map_or (λ (g : FunctionView). trees_of a.types g.params) o []) found), (ok.types.kept.functions_right a.main main.0 found).params)

-- ---- Texts of inputs

-- main's types are those of an entry
entry_types : (p : Program) (t : TypesView) (main : ℕ) (place : Option ℕ) → entry_at t place ≡ Ok main → (f : FunctionView) → slice_get t.functions main ≡ Some f → first_other (trees_of t f.params) ≡ None
entry_types p t main None is f found = absurd cc
entry_types p t main (Some place) is f found = by_function (slice_get t.functions place) refl is
  where
    of_first : (one : Option ℕ) (n : ℕ) (behind : Option ℕ) → unless_other (first_of one n behind) place ≡ Ok main → (one ≡ None) × (place ≡ main)
    of_first None n None is = (refl, cc)
    of_first None n (Some k) is = absurd cc
    of_first (Some k) n behind is = absurd cc

    same : (one other : FunctionView) → ◌≡◌ {A = Option FunctionView} (Some one) (Some other) → one ≡ other
    same one other is = cc

    by_function : (at : Option FunctionView) → slice_get t.functions place ≡ at → unless_other (option_and_then (other_type t) at) place ≡ Ok main → first_other (trees_of t f.params) ≡ None
    by_function None at is = absurd cc
    by_function (Some g) at is =
        let first = of_first (first_other (trees_of t g.params)) (length g.params) (first_other (trees_of t g.results)) is in
        let here : slice_get t.functions main ≡ Some g = subst (λ n. slice_get t.functions n ≡ Some g) first.1 at in
        subst (λ (h : FunctionView). first_other (trees_of t h.params) ≡ None) (same g f (sym here ∙ found)) first.0

-- where none is found that passes, none passes
none_passes : {X : Type 0} (p : X → Bool) (xs : List X) → length xs ≤ prefix_len (λ x. not (p x)) xs → AllByRecursion (λ x. p x ≡ false) xs
none_passes p [] far = tt
none_passes p (x ∷ xs) far = let here = step (p x) refl far in (here.0, none_passes p xs here.1)
  where
    step : (b : Bool) → p x ≡ b → suc (length xs) ≤ cond (not b) (1 + prefix_len (λ y. not (p y)) xs) 0 → (p x ≡ false) × (length xs ≤ prefix_len (λ y. not (p y)) xs)
    step true is far = absurd (omega arith)
    step false is far = (is, omega arith)

no_position : {X : Type 0} (p : X → Bool) (xs : List X) → position p xs ≡ None → AllByRecursion (λ x. p x ≡ false) xs
no_position p xs is = none_passes p xs (grind (arith, common_steps))

is_entry : (b : Bool) → not b ≡ false → b ≡ true
is_entry true is = refl
is_entry false is = absurd cc

plain_of : (ty : Ty) → is_entry_type ty ≡ true → is_builtin ty ≡ false → is_plain ty ≡ true
plain_of (number k) entry other = entry
plain_of (nonzero k) entry other = entry
plain_of range_check entry other = absurd cc
plain_of gas_builtin entry other = absurd cc
plain_of (box ty) entry other = entry
plain_of (array ty) entry other = entry
plain_of (snapshot ty) entry other = entry
plain_of (struct name tys) entry other = entry
plain_of (enum name tys) entry other = entry
plain_of (dict k) entry other = entry
plain_of (dict_entry k) entry other = entry
plain_of (squashed_dict k) entry other = entry
plain_of (uninitialized ty) entry other = entry

abbrev GivenTypes : Type 0
GivenTypes = (ds : List TypeDecl) (ty : Ty) (id : List ℕ) → IsType ds ty id → is_plain ty ≡ true → CanBeGiven ty × HasFlatArrays ty

abbrev ToldFaults : Type 0
ToldFaults = (tys : List Ty) (text : List ℕ) (fault : InputFault) → AllByRecursion CanBeGiven tys → AllByRecursion HasFlatArrays tys → (input_at tys text ≡ Err fault) ↔ IsInputFault tys text fault

abbrev AreGivenTypes : List Ty → Type 0
AreGivenTypes tys = AllByRecursion CanBeGiven tys × AllByRecursion HasFlatArrays tys

module _ (given : GivenTypes) (a : AcceptedView) (ok : IsAccepted a) where
  -- values of each can be given, ..
  given_at : (t : TypeId) → t.0 < length a.types.rows → is_plain (tree_of a.types t.0) ≡ true → CanBeGiven (tree_of a.types t.0) × HasFlatArrays (tree_of a.types t.0)
  given_at t below plain =
      let named = inside a.types.ids t.0 (omega (arith, below, ok.types.kept.each_named)) in
      given a.program.types (tree_of a.types t.0) named.0 (ok.types.types t.0 named.0 named.1) plain

  given_others : (ts : List TypeId) → AllByRecursion (λ (t : TypeId). t.0 < length a.types.rows) ts → AllByRecursion (λ ty. not (is_entry_type ty) ≡ false) (trees_of a.types ts)
      → AreGivenTypes (others_of (trees_of a.types ts))
  given_others [] below entries = (tt, tt)
  given_others (t ∷ ts) below entries = step (is_builtin (tree_of a.types t.0)) refl (given_others ts below.1 entries.1)
    where
      step : (b : Bool) → is_builtin (tree_of a.types t.0) ≡ b → AreGivenTypes (others_of (trees_of a.types ts))
          → AreGivenTypes (cond b (others_of (trees_of a.types ts)) (tree_of a.types t.0 ∷ others_of (trees_of a.types ts)))
      step true is more = more
      step false is more =
          let plain = plain_of (tree_of a.types t.0) (is_entry (is_entry_type (tree_of a.types t.0)) entries.0) is in
          let one = given_at t below.0 plain in
          ((one.0, more.0), (one.1, more.1))

  -- .. of main's parameters too
  given_main : AreGivenTypes (argument_types a)
  given_main =
      let g = main_parameters a ok in
      let below = recursion_from_All (λ (t : TypeId). t.0 < length a.types.rows) g.0.params g.3 in
      let entries = no_position (λ ty. not (is_entry_type ty)) (trees_of a.types g.0.params) (entry_types a.program a.types a.main (main_of a.program) ok.main g.0 g.1) in
      subst (λ (tys : List Ty). AreGivenTypes (others_of tys)) g.2 (given_others g.0.params below entries)

pub main_faults : GivenTypes → ToldFaults → (a : AcceptedView) → IsAccepted a → (text : List ℕ) (fault : InputFault) → (input_at (argument_types a) text ≡ Err fault) ↔ IsNoInputOf a text fault
main_faults given told a ok text fault = let types = given_main given a ok in told (argument_types a) text fault types.0 types.1
