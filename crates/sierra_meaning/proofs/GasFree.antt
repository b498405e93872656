-- Gas stands nowhere but in a gas builtin: no box, array, snapshot, struct or enum has one in it.
use Rattle.std.proofs.Common.{◌≡◌, ◌≢◌, ℕ, zero, suc, ◌+◌, ◌<◌, List, [], ◌∷◌, length, Some, refl, ap, subst, ◌∙◌, arith}
use Rattle.std.specs.List.{slice_get, sum_by, All, AllByRecursion}
use Rattle.std.proofs.lemmas.List.Elements.{All-head, All-tail}
use Rattle.std.proofs.lemmas.List.Sums.{sum_by-cons}
use Rattle.type_trees.specs.Ty.{Ty, Tys, number, nonzero, range_check, gas_builtin, box, array, snapshot, struct, enum, dict, dict_entry, squashed_dict, uninitialized, no_types, types}
use Rattle.type_table.specs.declared.type_id.TypeId.{TypeId}
use Rattle.type_table.specs.Parts.{IsOrdinaryType, HasOrdinaryParts}
use Rattle.type_table.specs.Trees.{listed, parts}
use Rattle.type_table.specs.View.{TypesView, RowView, IsInTable, IsTable, trees_of}
use Rattle.value_trees.specs.Measures.{total_weight}
use Rattle.value_trees.specs.Of.{AreOf, IsOfVariant, AllOf, AreWords, IsOpenMap, IsPlain}
use Rattle.value_trees.specs.Val.{Vals, Plain, WordMap, OpenMap, vals_of}
use Rattle.sierra_meaning.specs.Measured.{gas_inside}

abbrev mutual
  -- no gas builtin is in the type
  pub IsGasFree : Ty → Type 0
  IsGasFree gas_builtin = ⊥
  IsGasFree (box ty) = IsGasFree ty
  IsGasFree (array ty) = IsGasFree ty
  IsGasFree (snapshot ty) = IsGasFree ty
  IsGasFree (struct name tys) = AreGasFree tys
  IsGasFree (enum name tys) = AreGasFree tys
  IsGasFree _ = Unit {0}

  pub AreGasFree : Tys → Type 0
  AreGasFree no_types = Unit {0}
  AreGasFree (types ty tys) = IsGasFree ty × AreGasFree tys

-- their values have no gas

abbrev total : Vals WordMap OpenMap → ℕ
total vs = total_weight (λ m. 0) (λ e. 0) vs

elements_free : (P : Plain → Type 0) → ((v : Plain) → P v → gas_inside v ≡ 0) → (vs : List Plain) → AllByRecursion P vs → total (vals_of vs) ≡ 0
elements_free P free [] all = refl
elements_free P free (v ∷ vs) all = let a = free v all.0 in let b = elements_free P free vs all.1 in omega arith

mutual
  pub value_free : (ty : Ty) (v : Plain) → IsGasFree ty → IsPlain ty v → gas_inside v ≡ 0
  value_free (number k) v free (n, is, below) = ap gas_inside is
  value_free (nonzero k) v free (n, is, below, other) = ap gas_inside is
  value_free range_check v free is = ap gas_inside is
  value_free gas_builtin v free is = absurd free
  value_free (box ty) v free (inner, is, fits) = ap gas_inside is ∙ value_free ty inner free fits
  value_free (array ty) v free (vs, is, fit) = ap gas_inside is ∙ elements_free (IsPlain ty) (λ u fits. value_free ty u free fits) vs fit
  value_free (snapshot ty) v free fits = value_free ty v free fits
  value_free (struct name tys) v free (vs, is, fit) = ap gas_inside is ∙ values_free tys vs free fit
  value_free (enum name tys) v free (index, payload, is, fits) = ap gas_inside is ∙ variant_free tys index payload free fits
  value_free (dict k) v free (m, is, words) = ap gas_inside is
  value_free (dict_entry k) v free (e, is, words) = ap gas_inside is
  value_free (squashed_dict k) v free (m, is, words) = ap gas_inside is
  value_free (uninitialized ty) v free is = ap gas_inside is

  values_free : (tys : Tys) (vs : List Plain) → AreGasFree tys → AreOf AreWords IsOpenMap tys vs → total (vals_of vs) ≡ 0
  values_free no_types vs free is = ap (λ us. total (vals_of us)) is
  values_free (types ty tys) vs free (v, rest, is, fits, fit) =
      let a = value_free ty v free.0 fits in
      let b = values_free tys rest free.1 fit in
      let c : gas_inside v + total (vals_of rest) ≡ 0 = omega arith in
      ap (λ us. total (vals_of us)) is ∙ c

  variant_free : (tys : Tys) (index : ℕ) (v : Plain) → AreGasFree tys → IsOfVariant AreWords IsOpenMap tys index v → gas_inside v ≡ 0
  variant_free no_types index v free is = absurd is
  variant_free (types ty tys) zero v free fits = value_free ty v free.0 fits
  variant_free (types ty tys) (suc index) v free fits = variant_free tys index v free.1 fits

-- declared types but the gas builtin itself are so

pub trees_in_table : (view : TypesView) (ts : List TypeId) → All (λ t. t.0 < length view.rows) ts → AllByRecursion (IsInTable view) (trees_of view ts)
trees_in_table view [] all = tt
trees_in_table view (t ∷ ts) all =
    let below = All-head (λ (u : TypeId). u.0 < length view.rows) t ts all in
    ((t.0, record { below = below; tree = refl }), trees_in_table view ts (All-tail (λ (u : TypeId). u.0 < length view.rows) t ts all))

pub row_there : (view : TypesView) → IsTable view → (i : ℕ) → i < length view.rows → (row : RowView) × (slice_get view.rows i ≡ Some row)
row_there view table i lt = at view.rows i lt
  where
    at : (rows : List RowView) (i : ℕ) → i < length rows → (row : RowView) × (slice_get rows i ≡ Some row)
    at [] i lt = absurd (omega arith)
    at (row ∷ rows) zero lt = (row, refl)
    at (row ∷ rows) (suc i) lt = at rows i (omega arith)

-- the parts of a declared type are declared, and ordinary
pub parts_declared : (view : TypesView) → IsTable view → (ty : Ty) → IsInTable view ty → AllByRecursion (IsInTable view) (parts ty) × HasOrdinaryParts ty
parts_declared view table ty (i, has) =
    let row = row_there view table i has.below in
    let right = table.rows_right i row.0 row.1 in
    let members = subst (AllByRecursion (IsInTable view)) right.members (trees_in_table view row.0.members right.below) in
    (subst (λ (x : Ty). AllByRecursion (IsInTable view) (parts x)) has.tree members, subst HasOrdinaryParts has.tree right.ordinary)

module _ (view : TypesView) (table : IsTable view) where
  mutual
    pub declared_free : (ty : Ty) → IsInTable view ty → ty ≢ gas_builtin → IsGasFree ty
    declared_free gas_builtin there other = absurd (other refl)
    declared_free (box ty) there other = let p = parts_declared view table (box ty) there in declared_free ty p.0.0 p.1.no_gas
    declared_free (array ty) there other = let p = parts_declared view table (array ty) there in declared_free ty p.0.0 p.1.no_gas
    declared_free (snapshot ty) there other = let p = parts_declared view table (snapshot ty) there in declared_free ty p.0.0 p.1.no_gas
    declared_free (struct name tys) there other = let p = parts_declared view table (struct name tys) there in all_free tys p.0 p.1
    declared_free (enum name tys) there other = let p = parts_declared view table (enum name tys) there in all_free tys p.0 p.1.1
    declared_free (number k) there other = tt
    declared_free (nonzero k) there other = tt
    declared_free range_check there other = tt
    declared_free (dict k) there other = tt
    declared_free (dict_entry k) there other = tt
    declared_free (squashed_dict k) there other = tt
    declared_free (uninitialized ty) there other = tt

    all_free : (tys : Tys) → AllByRecursion (IsInTable view) (listed tys) → All IsOrdinaryType (listed tys) → AreGasFree tys
    all_free no_types there ordinary = tt
    all_free (types ty tys) there ordinary =
        (declared_free ty there.0 (All-head IsOrdinaryType ty (listed tys) ordinary).no_gas, all_free tys there.1 (All-tail IsOrdinaryType ty (listed tys) ordinary))

-- values of types that are gas free have no gas together
pub all_gas_free : (tys : List Ty) (vs : List Plain) → AllByRecursion IsGasFree tys → AllOf AreWords IsOpenMap tys vs → sum_by gas_inside vs ≡ 0
all_gas_free [] vs free is = ap (sum_by gas_inside) is
all_gas_free (ty ∷ tys) vs free (v, rest, is, fits, fit) =
    let a = value_free ty v free.0 fits in
    let b = all_gas_free tys rest free.1 fit in
    omega (arith, ap (sum_by gas_inside) is, sum_by-cons gas_inside v rest)
