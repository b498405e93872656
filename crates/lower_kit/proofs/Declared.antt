-- The family of a declared libfunc is as declared ones are: its types are types of the table, and it has no more branches than a
-- type has parts.
use Rattle.std.proofs.Common.{◌≤◌, ◌^◌, [], ◌∷◌, length, subst, arith}
use Rattle.std.proofs.lemmas.List.{length-map}
use Rattle.std.proofs.lemmas.List.Elements.{All-weaker, All-head, All-tail}
use Rattle.std.specs.List.{All}
use Rattle.type_trees.specs.Ty.{Ty, snap, box, uninitialized}
use Rattle.type_table.specs.Trees.{IsAllowed, parts}
use Rattle.type_table.specs.View.{TypesView, IsTable, IsInTable, tree_of}
use Rattle.libfunc_registry.specs.declared.libfunc.Libfunc.{Libfunc}
use Rattle.libfunc_registry.specs.declared.libfunc.Libfunc.TheVariants as libfuncs
use Rattle.libfunc_registry.specs.declared.sig.Sig.{Sig}
use Rattle.libfunc_registry.specs.Control as controls
use Rattle.libfunc_registry.specs.Data.{into_box}
use Rattle.libfunc_registry.specs.Fam.{Fam, control, data_, fam_of, takes, gives, IsAble}
use Rattle.libfunc_registry.specs.Wanted.{IsPlaced}
use Rattle.libfunc_registry.proofs.Finds.{few_parts}
use Rattle.libfunc_registry.proofs.Placing.{written-placed}
use Rattle.libfunc_registry.proofs.Signed.{signed_declared}
use Rattle.cost_table.specs.Fits.{IsSignature}
use Rattle.cost_table.proofs.FewCells.{size_few}
use Rattle.libfunc_meaning.proofs.Declared.{declared_is_proper}
use Rattle.lower_kit.specs.Fitting.{IsSmallType, IsStored, IsAsDeclared}
use Rattle.lower_kit.proofs.Worded.{allowed_in, worded}

module _ (types : TypesView) (kept : IsTable types) where
  small_in : (ty : Ty) → IsInTable types ty → IsSmallType ty
  small_in ty (i, here) = subst IsSmallType here.tree (size_few types kept i here.below)

  -- but for a match, which has a branch for each variant, a libfunc has one or two branches
  branches_few : (l : Libfunc) → IsPlaced types l → length (gives (fam_of types l)) ≤ 2 ^ 24
  branches_few (libfuncs.EnumMatch t) below =
      let few = few_parts types kept t below in
      omega (arith, few, length-map (parts (tree_of types t.0)) (λ variant. variant ∷ []))
  branches_few (libfuncs.EnumSnapshotMatch t) below =
      let few = few_parts types kept t below in
      omega (arith, few, length-map (parts (tree_of types t.0)) (λ variant. snap variant ∷ []))
  branches_few _ placed = omega arith

  stored_in : (fam : Fam) → IsAble fam → All (IsInTable types) (takes fam) → All (All (IsInTable types)) (gives fam) → IsStored fam
  stored_in (control (controls.store_temp ty)) able takes_ gives_ = worded types kept ty (All-head (IsInTable types) ty [] takes_) able
  stored_in (control (controls.store_local ty)) able takes_ gives_ = worded types kept ty (All-head (IsInTable types) ty [] (All-tail (IsInTable types) (uninitialized ty) (ty ∷ []) takes_)) able
  stored_in (data_ (into_box ty)) able takes_ gives_ =
      let boxed = All-head (IsInTable types) (box ty) [] (All-head (All (IsInTable types)) (box ty ∷ []) [] gives_) in
      worded types kept ty (All-head (IsInTable types) ty [] takes_) (allowed_in types kept (box ty) boxed).stored
  stored_in _ able takes_ gives_ = tt

pub declared_families : (types : TypesView) (sig : Sig) → IsTable types → IsSignature types sig → IsAsDeclared (fam_of types sig.libfunc)
declared_families types sig kept (decl, has) =
    let fam = fam_of types sig.libfunc in
    let in_table = signed_declared types decl sig has in
    record {
      proper = declared_is_proper types decl sig has;
      small = All-weaker (IsInTable types) IsSmallType (small_in types kept) (takes fam) in_table.takes;
      small_results = All-weaker (All (IsInTable types)) (All IsSmallType) (All-weaker (IsInTable types) IsSmallType (small_in types kept)) (gives fam) in_table.gives;
      few_branches = branches_few types kept sig.libfunc (written-placed types kept decl.generic decl.args sig.libfunc has.written);
      allowed_results = All-weaker (All (IsInTable types)) (All IsAllowed) (All-weaker (IsInTable types) IsAllowed (allowed_in types kept)) (gives fam) in_table.gives;
      stored = stored_in types kept fam has.able in_table.takes in_table.gives;
    }
