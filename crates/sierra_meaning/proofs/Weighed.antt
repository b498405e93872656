-- Every libfunc of a table's types keeps the gas, and what grows was paid for.
use Rattle.std.proofs.Common.{◌≡◌, ◌≢◌, ℕ, ◌*◌, ◌≤◌, true, List, [], ◌∷◌, refl, sym, ap, subst, ◌∙◌, arith}
use Rattle.std.proofs.lemmas.Bool.{false≢true}
use Rattle.type_trees.specs.Ty.{Ty, gas_builtin, array, duplicable, size}
use Rattle.type_table.specs.declared.type_id.TypeId.{TypeId}
use Rattle.type_table.specs.Trees.{IsAllowed}
use Rattle.type_table.specs.View.{TypesView, IsInTable, IsTable, tree_of}
use Rattle.libfunc_registry.specs.declared.libfunc.Libfunc.{Libfunc}
use Rattle.libfunc_registry.specs.declared.libfunc.Libfunc.TheVariants as libfuncs
use Rattle.libfunc_registry.specs.Fam.{IsAble, fam_of, takes}
use Rattle.libfunc_registry.specs.Signature.{AreTrees}
use Rattle.cost_table.specs.Costs.{charge}
use Rattle.value_trees.specs.Val.{Plain}
use Rattle.libfunc_meaning.specs.Placed.{ArePlain}
use Rattle.sierra_meaning.specs.Weighing.{withdrawn, AllWeigh}
use Rattle.sierra_meaning.proofs.Gas.{DoublesNoGas, withdrawn_by, gas_kept}
use Rattle.sierra_meaning.proofs.GasFree.{declared_free, all_gas_free, row_there}
use Rattle.sierra_meaning.proofs.GasParts.{gas_in, gas_in_sum}
use Rattle.sierra_meaning.proofs.Lengths.{growth, grows}

withdrawn_same : (types : TypesView) (libfunc : Libfunc) (k amount : ℕ) → withdrawn_by (fam_of types libfunc) k amount ≡ withdrawn libfunc k amount
withdrawn_same types libfuncs.WithdrawGas k amount = refl
withdrawn_same types _ k amount = refl

duplicable_other : (ty : Ty) → duplicable ty ≡ true → ty ≢ gas_builtin
duplicable_other ty is same = false≢true (sym (ap duplicable same) ∙ is)

first_declared : (types : TypesView) (ts : List TypeId) (ty : Ty) (tys : List Ty) → AreTrees types ts (ty ∷ tys) → IsInTable types ty
first_declared types [] ty tys are = absurd are
first_declared types (t ∷ ts) ty tys are = (t.0, are.0)

-- one value of a declared type that isn't the gas builtin
no_gas : (types : TypesView) → IsTable types → (ts : List TypeId) (ty : Ty) (vs : List Plain) → AreTrees types ts (ty ∷ []) → ty ≢ gas_builtin → ArePlain (ty ∷ []) vs → gas_in vs ≡ 0
no_gas types table ts ty vs are other typed =
    sym (gas_in_sum vs) ∙ all_gas_free (ty ∷ []) vs (declared_free types table ty (first_declared types ts ty [] are) other, tt) typed

doubles_no_gas : (types : TypesView) → IsTable types → (libfunc : Libfunc) (ts : List TypeId) (vs : List Plain) → IsAble (fam_of types libfunc) → AreTrees types ts (takes (fam_of types libfunc))
    → ArePlain (takes (fam_of types libfunc)) vs → DoublesNoGas (fam_of types libfunc) vs
doubles_no_gas types table (libfuncs.Dup t) ts vs able are typed = no_gas types table ts (tree_of types t.0) vs are (duplicable_other (tree_of types t.0) able) typed
doubles_no_gas types table (libfuncs.SnapshotTake t) ts vs able are typed = no_gas types table ts (tree_of types t.0) vs are able.no_gas typed
doubles_no_gas types table _ ts vs able are typed = tt

-- an element takes a cell, so appending one takes a step
element_paid : (types : TypesView) → IsTable types → (ty : Ty) → IsInTable types (array ty) → 1 ≤ size ty
element_paid types table ty (i, has) =
    let row = row_there types table i has.below in
    (subst IsAllowed has.tree (table.rows_right i row.0 row.1).allowed).takes_cells

growth_paid : (types : TypesView) → IsTable types → (libfunc : Libfunc) (ts : List TypeId) (k : ℕ) → AreTrees types ts (takes (fam_of types libfunc)) → 100 * growth (fam_of types libfunc) ≤ charge (fam_of types libfunc) k
growth_paid types table (libfuncs.ArrayAppend t) ts k are =
    let cells = element_paid types table (tree_of types t.0) (first_declared types ts (array (tree_of types t.0)) (tree_of types t.0 ∷ []) are) in
    omega arith
growth_paid types table (libfuncs.DictEntryFinalize num) ts k are = omega arith
growth_paid types table _ ts k are = omega arith

pub all_weigh : (types : TypesView) → IsTable types → AllWeigh types
all_weigh types table sig vs amount k outs (decl, signature) none typed does =
    let fam = fam_of types sig.libfunc in
    let doubles = doubles_no_gas types table sig.libfunc sig.params vs signature.able signature.params typed in
    let kept = gas_kept fam vs amount k outs doubles does in
    let same = withdrawn_same types sig.libfunc k amount in
    let one = gas_in_sum outs in
    let other = gas_in_sum vs in
    let long = grows fam vs amount k outs does in
    let paid = growth_paid types table sig.libfunc sig.params k signature.params in
    record { no_more_gas = omega arith; grown = omega arith }
