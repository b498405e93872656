-- What the families of signatures suit: their types are of a table.
use Rattle.std.proofs.Common.{◌≡◌, ◌≢◌, ℕ, zero, suc, ◌<◌, true, List, [], ◌∷◌, length, get_or, refl, sym, subst, arith}
use Rattle.std.specs.List.{All, AllByRecursion, AllZip}
use Rattle.std.proofs.lemmas.Bool.{false≢true}
use Rattle.std.proofs.lemmas.List.{length-map}
use Rattle.std.proofs.lemmas.List.Elements.{All-head, All-tail}
use Rattle.type_trees.specs.Ty.{Ty, Tys, range_check, gas_builtin, box, array, enum, struct, duplicable, droppable, snap}
use Rattle.type_table.specs.declared.type_id.TypeId.{TypeId}
use Rattle.type_table.specs.Parts.{IsOrdinaryType, HasOrdinaryParts}
use Rattle.type_table.specs.Trees.{listed, parts}
use Rattle.type_table.specs.View.{TypesView, HasTree, IsTable, tree_of}
use Rattle.statement_walk.proofs.Arrivals.{inside}
use Rattle.libfunc_registry.specs.declared.sig.Sig.{Sig}
use Rattle.libfunc_registry.specs.declared.libfunc.Libfunc.{Libfunc}
use Rattle.libfunc_registry.specs.declared.libfunc.Libfunc.TheVariants as libfuncs
use Rattle.libfunc_registry.specs.Data.{part_at}
use Rattle.libfunc_registry.specs.Fam.{IsAble, fam_of, gives, takes}
use Rattle.libfunc_registry.specs.Signature.{AreTrees}
use Rattle.libfunc_registry.specs.Wanted.{IsPlaced}
use Rattle.libfunc_registry.proofs.Placing.{written-placed}
use Rattle.cost_table.specs.Fits.{IsSignature}
use Rattle.gas_solver.proofs.Families.{IsOther, HasOtherParts, Suits}
use Rattle.gas_solver.proofs.WrittenKinds.{IsEnum, IsStruct, IsKinded, written_kinds}

ordinary_here : (types : TypesView) → IsTable types → (i : ℕ) → i < length types.rows → HasOrdinaryParts (tree_of types i)
ordinary_here types table i lt = let row = inside types.rows i lt in (table.rows_right i row.0 row.1).ordinary

ordinary_of : (types : TypesView) → IsTable types → (i : ℕ) (ty : Ty) → HasTree types i ty → HasOrdinaryParts ty
ordinary_of types table i ty has = subst HasOrdinaryParts has.tree (ordinary_here types table i has.below)

first_tree : (types : TypesView) (ts : List TypeId) (ty : Ty) (tys : List Ty) → AreTrees types ts (ty ∷ tys) → (i : ℕ) × HasTree types i ty
first_tree types [] ty tys are = absurd are
first_tree types (t ∷ ts) ty tys are = (t.0, are.0)

first_given : (types : TypesView) (tss : List (List TypeId)) (ty : Ty) (tys : List Ty) (tyss : List (List Ty)) → AllZip (AreTrees types) tss ((ty ∷ tys) ∷ tyss) → (i : ℕ) × HasTree types i ty
first_given types [] ty tys tyss are = absurd are
first_given types (ts ∷ tss) ty tys tyss are = first_tree types ts ty tys are.0

module _ (check gas : ℕ) where
  pub other : (ty : Ty) → ty ≢ range_check → ty ≢ gas_builtin → IsOther check gas ty
  other range_check not neither = absurd (not refl)
  other gas_builtin not neither = absurd (neither refl)
  other _ not neither = refl

  ordinary_other : (ty : Ty) → IsOrdinaryType ty → IsOther check gas ty
  ordinary_other ty is = other ty is.no_check is.no_gas

  ordinary_others : (tys : List Ty) → All IsOrdinaryType tys → AllByRecursion (IsOther check gas) tys
  ordinary_others [] all = tt
  ordinary_others (ty ∷ tys) all = (ordinary_other ty (All-head IsOrdinaryType ty tys all), ordinary_others tys (All-tail IsOrdinaryType ty tys all))

  duplicated : (ty : Ty) → duplicable ty ≡ true → IsOther check gas ty
  duplicated range_check is = absurd (false≢true is)
  duplicated gas_builtin is = absurd (false≢true is)
  duplicated _ is = refl

  dropped : (ty : Ty) → droppable ty ≡ true → IsOther check gas ty
  dropped range_check is = absurd (false≢true is)
  dropped gas_builtin is = absurd (false≢true is)
  dropped _ is = refl

  enum_parts : (ty : Ty) → IsEnum ty → HasOrdinaryParts ty → HasOtherParts check gas ty × (parts ty ≢ [])
  enum_parts ty (name, variants, is) ordinary =
      let own : HasOrdinaryParts (enum name variants) = subst HasOrdinaryParts is ordinary in
      let here : HasOtherParts check gas (enum name variants) = record { itself = refl; parts_are = ordinary_others (listed variants) own.1 } in
      subst (λ (x : Ty). HasOtherParts check gas x × (parts x ≢ [])) (sym is) (here, own.0)

  struct_parts : (ty : Ty) → IsStruct ty → HasOrdinaryParts ty → HasOtherParts check gas ty
  struct_parts ty (name, members, is) ordinary =
      let own : HasOrdinaryParts (struct name members) = subst HasOrdinaryParts is ordinary in
      subst (HasOtherParts check gas) (sym is) (record { itself = refl; parts_are = ordinary_others (listed members) own })

  part_other : (tys : List Ty) (index : ℕ) → AllByRecursion (IsOther check gas) tys → index < length tys → IsOther check gas (get_or tys index range_check)
  part_other [] index all lt = absurd (omega arith)
  part_other (ty ∷ tys) zero all lt = all.0
  part_other (ty ∷ tys) (suc index) all lt = part_other tys index all.1 (omega arith)

  init_parts : (ty : Ty) (index : ℕ) → (name : List ℕ) × (variants : Tys) × (ty ≡ enum name variants) × (index < length (listed variants)) → HasOrdinaryParts ty → IsOther check gas ty × IsOther check gas (part_at ty index)
  init_parts ty index (name, variants, is, lt) ordinary =
      let has = (enum_parts ty (name, variants, is) ordinary).0 in
      let few : index < length (parts ty) = subst (λ (x : Ty). index < length (parts x)) (sym is) lt in
      (has.itself, part_other (parts ty) index has.parts_are few)

  -- the libfunc's own types
  suits_by : (types : TypesView) → IsTable types → (sig : Sig) (libfunc : Libfunc) → ((f : ℕ) → libfunc ≢ libfuncs.FunctionCall f) → IsPlaced types libfunc → IsKinded types libfunc → IsAble (fam_of types libfunc)
      → AreTrees types sig.params (takes (fam_of types libfunc)) → AllZip (AreTrees types) sig.branches (gives (fam_of types libfunc)) → Suits check gas (fam_of types libfunc)
  suits_by types table sig (libfuncs.Dup t) not placed kinded able params branches = duplicated (tree_of types t.0) able
  suits_by types table sig (libfuncs.Drop t) not placed kinded able params branches = dropped (tree_of types t.0) able
  suits_by types table sig (libfuncs.FunctionCall f) not placed kinded able params branches = absurd (not f refl)
  suits_by types table sig (libfuncs.EnumInit t index) not placed kinded able params branches = init_parts (tree_of types t.0) index kinded (ordinary_here types table t.0 placed.0)
  suits_by types table sig (libfuncs.EnumMatch t) not placed kinded able params branches = enum_parts (tree_of types t.0) kinded (ordinary_here types table t.0 placed)
  suits_by types table sig (libfuncs.EnumSnapshotMatch t) not placed kinded able params branches = enum_parts (tree_of types t.0) kinded (ordinary_here types table t.0 placed)
  suits_by types table sig (libfuncs.StructConstruct t) not placed kinded able params branches = struct_parts (tree_of types t.0) kinded (ordinary_here types table t.0 placed)
  suits_by types table sig (libfuncs.StructDeconstruct t) not placed kinded able params branches = struct_parts (tree_of types t.0) kinded (ordinary_here types table t.0 placed)
  suits_by types table sig (libfuncs.StructSnapshotDeconstruct t) not placed kinded able params branches = struct_parts (tree_of types t.0) kinded (ordinary_here types table t.0 placed)
  suits_by types table sig (libfuncs.SnapshotTake t) not placed kinded able params branches = other (tree_of types t.0) able.no_range_check able.no_gas
  suits_by types table sig (libfuncs.IntoBox t) not placed kinded able params branches =
      let found = first_given types sig.branches (box (tree_of types t.0)) [] [] branches in
      ordinary_other (tree_of types t.0) (ordinary_of types table found.0 (box (tree_of types t.0)) found.1)
  suits_by types table sig (libfuncs.Unbox t) not placed kinded able params branches =
      let found = first_tree types sig.params (box (tree_of types t.0)) [] params in
      ordinary_other (tree_of types t.0) (ordinary_of types table found.0 (box (tree_of types t.0)) found.1)
  suits_by types table sig (libfuncs.ArrayAppend t) not placed kinded able params branches =
      let found = first_tree types sig.params (array (tree_of types t.0)) (tree_of types t.0 ∷ []) params in
      ordinary_other (tree_of types t.0) (ordinary_of types table found.0 (array (tree_of types t.0)) found.1)
  suits_by types table sig _ not placed kinded able params branches = tt

  pub suits : (types : TypesView) → IsTable types → (sig : Sig) → IsSignature types sig → ((f : ℕ) → sig.libfunc ≢ libfuncs.FunctionCall f) → Suits check gas (fam_of types sig.libfunc)
  suits types table sig (decl, has) not =
      suits_by types table sig sig.libfunc not (written-placed types table decl.generic decl.args sig.libfunc has.written) (written_kinds types decl.generic decl.args sig.libfunc has.written) has.able has.params has.branches

-- a branch other than the success branch of `withdraw_gas`
abbrev pub pick : Libfunc → ℕ
pick libfuncs.WithdrawGas = 1
pick _ = 0

enum_some : (ty : Ty) → IsEnum ty → HasOrdinaryParts ty → 0 < length (parts ty)
enum_some ty (name, variants, is) ordinary =
    let own : HasOrdinaryParts (enum name variants) = subst HasOrdinaryParts is ordinary in
    subst (λ (x : Ty). 0 < length (parts x)) (sym is) (some (listed variants) own.0)
  where
    some : (tys : List Ty) → tys ≢ [] → 0 < length tys
    some [] not = absurd (not refl)
    some (ty ∷ tys) not = omega arith

picked_by : (types : TypesView) → IsTable types → (libfunc : Libfunc) → IsPlaced types libfunc → IsKinded types libfunc → pick libfunc < length (gives (fam_of types libfunc))
picked_by types table (libfuncs.EnumMatch t) placed kinded =
    let some = enum_some (tree_of types t.0) kinded (ordinary_here types table t.0 placed) in
    omega (arith, length-map (parts (tree_of types t.0)) (λ variant. variant ∷ []))
picked_by types table (libfuncs.EnumSnapshotMatch t) placed kinded =
    let some = enum_some (tree_of types t.0) kinded (ordinary_here types table t.0 placed) in
    omega (arith, length-map (parts (tree_of types t.0)) (λ variant. snap variant ∷ []))
picked_by types table _ placed kinded = omega arith

-- each libfunc has such a branch
pub picked : (types : TypesView) → IsTable types → (sig : Sig) → IsSignature types sig → pick sig.libfunc < length (gives (fam_of types sig.libfunc))
picked types table sig (decl, has) = picked_by types table sig.libfunc (written-placed types table decl.generic decl.args sig.libfunc has.written) (written_kinds types decl.generic decl.args sig.libfunc has.written)
