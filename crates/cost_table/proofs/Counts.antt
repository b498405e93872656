-- A branch's results have as many terms as their types have cells.
use Rattle.std.proofs.Common.{◌≡◌, ℕ, zero, suc, ◌+◌, ◌-◌, ◌<◌, ◌≤◌, cond, true, false, List, [], ◌∷◌, ◌++◌, map, length, refl, sym, ap, subst, ◌∙◌, length-append, arith}
use Rattle.std.specs.List.{sum_by, slice_index_or}
use Rattle.std.proofs.lemmas.List.{length-map}
use Rattle.std.proofs.lemmas.List.Sums.{sum_by-cons}
use Rattle.std.proofs.lemmas.List.FromFn.{length-map-range_with_len}
use Rattle.felt64.specs.Field.{modulus}
use Rattle.type_trees.specs.Ty.{Ty, Tys, no_types, types, range_check, size, size_together, greatest_size, duplicable, snapshot, uninitialized, snap}
use Rattle.type_table.specs.Trees.{parts, listed}
use Rattle.libfunc_registry.specs.Data.{part_at}
use Rattle.libfunc_registry.specs.Control as controls
use Rattle.libfunc_registry.specs.Gas as gases
use Rattle.libfunc_registry.specs.Felts as felt
use Rattle.libfunc_registry.specs.Integers as integer
use Rattle.libfunc_registry.specs.Data as datas
use Rattle.libfunc_registry.specs.Arrays as array
use Rattle.libfunc_registry.specs.Dictionaries as dictionary
use Rattle.libfunc_registry.specs.Fam.{Fam, control, gas, felts, integers, data_, arrays, dictionaries, gives}
use Rattle.casm_word.specs.declared.cell_expr.CellExpr.{CellExpr}
use Rattle.cell_terms.specs.declared.term.Slot.TheVariants as slots
use Rattle.cell_terms.specs.declared.term.Term.{Term}
use Rattle.cell_terms.specs.declared.term.Term.TheVariants as terms
use Rattle.cost_table.specs.Rows.{by_branch}
use Rattle.cost_table.specs.Terms.{further, run}
use Rattle.cost_table.specs.Results.{cells_of, branch_types, result_terms, results}

run_length : (t : Term) (n : ℕ) → length (run t n) ≡ n
run_length t n = length-map-range_with_len (further t) 0 n

-- the one branch of a family
one : (tys : List Ty) (branch n : ℕ) → branch < 1 → n ≡ cells_of tys → n ≡ cells_of (slice_index_or (tys ∷ []) branch [])
one tys zero n within is = is
one tys (suc branch) n within is = absurd (omega arith)

-- the two branches of a family
two : (tys uys : List Ty) (a b : List Term) (branch : ℕ) → branch < 2 → length a ≡ cells_of tys → length b ≡ cells_of uys
    → length (by_branch branch a b) ≡ cells_of (slice_index_or (tys ∷ uys ∷ []) branch [])
two tys uys a b zero within first second = first
two tys uys a b (suc zero) within first second = second
two tys uys a b (suc (suc branch)) within first second = absurd (omega arith)

alike : (tys uys : List Ty) (branch n : ℕ) → branch < 2 → n ≡ cells_of tys → n ≡ cells_of uys → n ≡ cells_of (slice_index_or (tys ∷ uys ∷ []) branch [])
alike tys uys zero n within first second = first
alike tys uys (suc zero) n within first second = second
alike tys uys (suc (suc branch)) n within first second = absurd (omega arith)

each : (f : Ty → List Ty) (xs : List Ty) (i : ℕ) → i < length xs → slice_index_or (map f xs) i [] ≡ f (slice_index_or xs i range_check)
each f [] i within = absurd (omega arith)
each f (x ∷ xs) zero within = refl
each f (x ∷ xs) (suc i) within = each f xs i (omega arith)

pub snap_size : (ty : Ty) → size (snap ty) ≡ size ty
snap_size ty = elim (duplicable ty) as (λ b. size (cond b ty (snapshot ty)) ≡ size ty) [ true ↦ refl | false ↦ refl ]

snaps_size : (tys : List Ty) → sum_by size (map snap tys) ≡ sum_by size tys
snaps_size [] = refl
snaps_size (ty ∷ tys) = omega (arith, snap_size ty, snaps_size tys, sum_by-cons size (snap ty) (map snap tys), sum_by-cons size ty tys)

pub together_size : (tys : Tys) → size_together tys ≡ sum_by size (listed tys)
together_size no_types = refl
together_size (types ty tys) = omega (arith, together_size tys, sum_by-cons size ty (listed tys))

pub part_fits : (tys : Tys) (i : ℕ) → i < length (listed tys) → size (slice_index_or (listed tys) i range_check) ≤ greatest_size tys
part_fits no_types i within = absurd (omega arith)
part_fits (types ty tys) zero within = omega arith
part_fits (types ty tys) (suc i) within = let a = part_fits tys i (omega arith) in omega arith

-- the payload of an enum that is made fits into it, the cells of a struct that is taken apart are those of its members, and
-- a constant is a number of the field
abbrev pub IsShapely : Fam → Type 0
IsShapely (felts (felt.const num n)) = n < modulus
IsShapely (data_ (datas.enum_init ty index)) = 1 + size (part_at ty index) ≤ size ty
IsShapely (data_ (datas.struct_deconstruct ty)) = size ty ≡ sum_by size (parts ty)
IsShapely (data_ (datas.struct_snapshot_deconstruct ty)) = size ty ≡ sum_by size (parts ty)
IsShapely _ = Unit {0}

enum_length : (w : Term) (ty : Ty) (index : ℕ) (t u : Term) → 1 + size (part_at ty index) ≤ size ty
    → length (w ∷ (run t (size ty - (1 + size (part_at ty index))) ++ run u (size (part_at ty index)))) ≡ 0 + size ty
enum_length w ty index t u fits =
    let n = size ty - (1 + size (part_at ty index)) in
    let a = run_length t n in
    let b = run_length u (size (part_at ty index)) in
    let e = length-append (run t n) (run u (size (part_at ty index))) in
    omega arith

twice : (t u : Term) (n : ℕ) → length (run t n ++ run u n) ≡ 0 + n + n
twice t u n = let a = run_length t n in let b = run_length u n in let e = length-append (run t n) (run u n) in omega arith

run_one : (t : Term) (ty : Ty) → length (run t (size ty)) ≡ 0 + size ty
run_one t ty = let a = run_length t (size ty) in omega arith

pub terms_many : (args : List CellExpr) (amount : ℕ) (fam : Fam) (branch : ℕ) → IsShapely fam → branch < length (gives fam)
    → length (result_terms args amount fam branch) ≡ cells_of (branch_types fam branch)
terms_many args amount (control controls.branch_align) branch shape within = one [] branch 0 within refl
terms_many args amount (control controls.jump) branch shape within = one [] branch 0 within refl
terms_many args amount (control (controls.rename ty)) branch shape within = one (ty ∷ []) branch _ within (run_one (terms.Whole 0) ty)
terms_many args amount (control (controls.dup ty)) branch shape within = one (ty ∷ ty ∷ []) branch _ within (twice (terms.Whole 0) (terms.Whole 0) (size ty))
terms_many args amount (control (controls.drop ty)) branch shape within = one [] branch 0 within refl
terms_many args amount (control (controls.store_temp ty)) branch shape within = one (ty ∷ []) branch _ within (run_one (terms.Cell (slots.Own 0)) ty)
terms_many args amount (control (controls.store_local ty)) branch shape within = one (ty ∷ []) branch _ within (run_one (terms.Whole 0) ty)
terms_many args amount (control (controls.alloc_local ty)) branch shape within =
    one (uninitialized ty ∷ []) branch _ within (run_one (terms.Cell (slots.Frame amount)) ty)
terms_many args amount (control controls.finalize_locals) branch shape within = one [] branch 0 within refl
terms_many args amount (control controls.disable_ap_tracking) branch shape within = one [] branch 0 within refl
terms_many args amount (control controls.enable_ap_tracking) branch shape within = one [] branch 0 within refl
terms_many args amount (gas (gases.function_call f params results)) branch shape within =
    run_length (terms.Cell (slots.Own 0)) (cells_of (branch_types (gas (gases.function_call f params results)) branch))
terms_many args amount (gas gases.withdraw_gas) branch shape within = two _ _ _ _ branch within refl refl
terms_many args amount (felts (felt.const num n)) branch shape within = one _ branch 1 within refl
terms_many args amount (felts felt.felt64_add) branch shape within = one _ branch 1 within refl
terms_many args amount (felts felt.felt64_sub) branch shape within = one _ branch 1 within refl
terms_many args amount (felts felt.felt64_mul) branch shape within = one _ branch 1 within refl
terms_many args amount (felts (felt.is_zero num)) branch shape within = two _ _ _ _ branch within refl refl
terms_many args amount (felts (felt.unwrap_non_zero num)) branch shape within = one _ branch 1 within refl
terms_many args amount (integers (integer.to_felt64 w)) branch shape within = one _ branch 1 within refl
terms_many args amount (integers (integer.try_from_felt64 w)) branch shape within = two _ _ _ _ branch within refl refl
terms_many args amount (integers (integer.overflowing_add w)) branch shape within = alike _ _ branch 2 within refl refl
terms_many args amount (integers (integer.overflowing_sub w)) branch shape within = alike _ _ branch 2 within refl refl
terms_many args amount (integers (integer.wide_mul w)) branch shape within = one _ branch 1 within refl
terms_many args amount (integers integer.split_mul) branch shape within = one _ branch 3 within refl
terms_many args amount (integers (integer.safe_divmod w)) branch shape within = one _ branch 3 within refl
terms_many args amount (integers (integer.eq w)) branch shape within = alike _ _ branch 0 within refl refl
terms_many args amount (integers (integer.upcast a b)) branch shape within = one _ branch 1 within refl
terms_many args amount (integers (integer.downcast a b)) branch shape within = two _ _ _ _ branch within refl refl
terms_many args amount (data_ (datas.enum_init ty index)) branch shape within =
    one (ty ∷ []) branch _ within (enum_length (terms.Word index) ty index (terms.Word 0) (terms.Whole 0) shape)
terms_many args amount (data_ (datas.enum_match ty)) branch shape within =
    let inside : branch < length (parts ty) = subst (λ n. branch < n) (length-map (parts ty) (λ v. v ∷ [])) within in
    run_one (terms.Whole (size ty - size (part_at ty branch))) (part_at ty branch) ∙ ap cells_of (sym (each (λ v. v ∷ []) (parts ty) branch inside))
terms_many args amount (data_ (datas.enum_snapshot_match ty)) branch shape within =
    let inside : branch < length (parts ty) = subst (λ n. branch < n) (length-map (parts ty) (λ v. snap v ∷ [])) within in
    run_one (terms.Whole (size ty - size (part_at ty branch))) (part_at ty branch) ∙ ap (λ n. 0 + n) (sym (snap_size (part_at ty branch)))
    ∙ ap cells_of (sym (each (λ v. snap v ∷ []) (parts ty) branch inside))
terms_many args amount (data_ (datas.struct_construct ty)) branch shape within = one (ty ∷ []) branch _ within (run_one (terms.Whole 0) ty)
terms_many args amount (data_ (datas.struct_deconstruct ty)) branch shape within = one (parts ty) branch _ within (run_length (terms.Whole 0) (size ty) ∙ shape)
terms_many args amount (data_ (datas.struct_snapshot_deconstruct ty)) branch shape within =
    one (map snap (parts ty)) branch _ within (run_length (terms.Whole 0) (size ty) ∙ shape ∙ sym (snaps_size (parts ty)))
terms_many args amount (data_ (datas.snapshot_take ty)) branch shape within =
    one (ty ∷ snap ty ∷ []) branch _ within (twice (terms.Whole 0) (terms.Whole 0) (size ty) ∙ ap (λ n. 0 + size ty + n) (sym (snap_size ty)))
terms_many args amount (data_ (datas.into_box ty)) branch shape within = one _ branch 1 within refl
terms_many args amount (data_ (datas.unbox ty)) branch shape within = one (ty ∷ []) branch _ within (run_one (terms.Behind (slots.Arg 0) 0) ty)
terms_many args amount (arrays (array.array_new ty)) branch shape within = one _ branch 2 within refl
terms_many args amount (arrays (array.array_append ty)) branch shape within = one _ branch 2 within refl
terms_many args amount (arrays (array.array_len ty)) branch shape within = one _ branch 1 within refl
terms_many args amount (arrays (array.array_get ty)) branch shape within = two _ _ _ _ branch within refl refl
terms_many args amount (arrays (array.array_pop_front ty)) branch shape within = two _ _ _ _ branch within refl refl
terms_many args amount (dictionaries (dictionary.dict_new num)) branch shape within = one _ branch 2 within refl
terms_many args amount (dictionaries (dictionary.dict_entry_get num)) branch shape within = one _ branch 4 within refl
terms_many args amount (dictionaries (dictionary.dict_entry_finalize num)) branch shape within = one _ branch 2 within refl
terms_many args amount (dictionaries (dictionary.dict_squash num)) branch shape within =
    run_length (terms.Cell (slots.Own 0)) (cells_of (branch_types (dictionaries (dictionary.dict_squash num)) branch))
terms_many args amount (dictionaries (dictionary.dict_entries num)) branch shape within = one _ branch 2 within refl
