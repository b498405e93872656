-- Types of a table: values of the plain ones can be given, and their arrays are flat.
use Rattle.std.proofs.Common.{◌≡◌, ℕ, zero, suc, ◌<◌, ◌≤◌, ◌^◌, ◌/◌, ◌*◌, max, Bool, true, false, ◌&&◌, not, List, [], ◌∷◌, refl, arith}
use Rattle.std.proofs.lemmas.Nat.{le-div}
use Rattle.sierra_types.specs.declared.program.Arg.{Arg}
use Rattle.sierra_types.specs.declared.program.TypeDecl.{TypeDecl}
use Rattle.type_table.specs.IsType.{IsType, AreTypes}
use Rattle.type_table.proofs.DecidedParts.{ordinary_parts}
use Rattle.type_trees.specs.Ty.{Ty, Tys, number, nonzero, range_check, gas_builtin, box, array, snapshot, struct, enum, dict, dict_entry, squashed_dict, uninitialized, no_types, types, size, holds_array, is_plain, all_plain}
use Rattle.typed_values.specs.Faults.{CanBeGiven, CanAllBeGiven, HasFlatArrays, HaveFlatArrays}
use Rattle.typed_values.specs.Inputs.{most_elements}

both : (a b : Bool) → (a && b) ≡ true → (a ≡ true) × (b ≡ true)
both true true is = (refl, refl)
both true false is = absurd cc
both false b is = absurd cc

is_not : (b : Bool) → not b ≡ true → b ≡ false
is_not false is = refl
is_not true is = absurd cc

some_cells : (cells : ℕ) → cells ≤ 2 ^ 14 → (0 < max 1 cells) × (1 * max 1 cells ≤ 2 ^ 20)
some_cells zero few = (omega arith, omega arith)
some_cells (suc cells) few = (omega arith, omega arith)

-- an array of elements of so few cells may have one
some_elements : (ty : Ty) → size ty ≤ 2 ^ 14 → 0 < most_elements ty
some_elements ty few = let cells = some_cells (size ty) few in le-div 1 (2 ^ 20) (max 1 (size ty)) cells.0 cells.1

module _ (ds : List TypeDecl) where
  mutual
    pub given_type : (ty : Ty) (id : List ℕ) → IsType ds ty id → is_plain ty ≡ true → CanBeGiven ty × HasFlatArrays ty
    given_type (number k) id is plain = (tt, tt)
    given_type (nonzero k) id is plain = absurd cc
    given_type range_check id is plain = absurd cc
    given_type gas_builtin id is plain = absurd cc
    given_type (box ty) id is plain = absurd cc
    given_type (array ty) id is plain =
        let args = is.3 in
        let inner = args.1 in
        let flat = both (is_plain ty) (not (holds_array ty)) plain in
        let element = given_type ty inner.0 inner.2 flat.0 in
        (element.0, (is_not (holds_array ty) flat.1, some_elements ty inner.2.4.within.few_cells))
    given_type (snapshot ty) id is plain = absurd cc
    given_type (struct name tys) id is plain = let args = is.3 in given_types tys args.1 args.3 plain
    given_type (enum name no_types) id is plain = absurd ((ordinary_parts ds (enum name no_types) id is).0 refl)
    given_type (enum name (types ty tys)) id is plain = let args = is.3 in given_types (types ty tys) args.1 args.3 plain
    given_type (dict k) id is plain = absurd cc
    given_type (dict_entry k) id is plain = absurd cc
    given_type (squashed_dict k) id is plain = absurd cc
    given_type (uninitialized ty) id is plain = absurd cc

    given_types : (tys : Tys) (args : List Arg) → AreTypes ds tys args → all_plain tys ≡ true → CanAllBeGiven tys × HaveFlatArrays tys
    given_types no_types args are plain = (tt, tt)
    given_types (types ty tys) args are plain =
        let first = both (is_plain ty) (all_plain tys) plain in
        let one = given_type ty are.0 are.3 first.0 in
        let more = given_types tys are.1 are.4 first.1 in
        ((one.0, more.0), (one.1, more.1))
