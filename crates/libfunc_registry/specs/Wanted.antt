-- The types of a signature as the code seeks them, by what the libfunc is over: functions by which the code computes.
use Rattle.std.specs.Prelude.{ℕ, ◌≡◌, ◌<◌, ◌↔◌, List, [], ◌∷◌, map, length, Option, Some, None}
use Rattle.std.specs.List.{All, AllZip}
use Rattle.type_trees.specs.Ty.{Ty, box, array, snapshot, snap}
use Rattle.type_table.specs.declared.type_id.TypeId.{TypeId}
use Rattle.type_table.specs.Shapes.{shaped, access}
use Rattle.type_table.specs.Trees.{parts}
use Rattle.type_table.specs.View.{TypesView, tree_of, HasTree, IsInTable}
use Rattle.libfunc_registry.specs.declared.libfunc.Libfunc.{Libfunc}
use Rattle.libfunc_registry.specs.declared.libfunc.Libfunc.TheVariants as libfuncs
use Rattle.libfunc_registry.specs.declared.wanted.Wanted.{Wanted}
use Rattle.libfunc_registry.specs.declared.wanted.Wanted.TheVariants as wanted
use Rattle.libfunc_registry.specs.declared.wanted.Listed.{Listed}
use Rattle.libfunc_registry.specs.declared.wanted.Listed.TheVariants as lists
use Rattle.libfunc_registry.specs.declared.wanted.Branches.{Branches}
use Rattle.libfunc_registry.specs.declared.wanted.Branches.TheVariants as branches
use Rattle.libfunc_registry.specs.Data.{part_at}
use Rattle.libfunc_registry.specs.Fam.{params_of, results_of, fam_of, takes, gives}
use Rattle.libfunc_registry.specs.Signature.{AreTrees}

module _ (types : TypesView) where
  -- the type that is sought
  abbrev pub wanted_tree : Wanted → Ty
  wanted_tree (wanted.At t) = tree_of types t.0
  wanted_tree (wanted.Shaped shape) = shaped types shape
  wanted_tree (wanted.Snap t) = snap (tree_of types t.0)
  wanted_tree (wanted.BoxOfSnap t) = box (snap (tree_of types t.0))
  wanted_tree (wanted.SnapshotOfArray t) = snapshot (array (tree_of types t.0))
  wanted_tree (wanted.Entries num) = array (access num)
  wanted_tree (wanted.Variant t index) = part_at (tree_of types t.0) index

  -- the types of a list
  abbrev pub listed_trees : Listed → List Ty
  listed_trees lists.Nothing = []
  listed_trees (lists.One a) = wanted_tree a ∷ []
  listed_trees (lists.Two a b) = wanted_tree a ∷ wanted_tree b ∷ []
  listed_trees (lists.Three a b d) = wanted_tree a ∷ wanted_tree b ∷ wanted_tree d ∷ []
  listed_trees (lists.Parts t) = parts (tree_of types t.0)
  listed_trees (lists.Snaps t) = map snap (parts (tree_of types t.0))
  listed_trees (lists.Params f) = params_of types f
  listed_trees (lists.Results f) = results_of types f

  -- the types of each branch
  abbrev pub branch_trees : Branches → List (List Ty)
  branch_trees (branches.Single a) = listed_trees a ∷ []
  branch_trees (branches.Double a b) = listed_trees a ∷ listed_trees b ∷ []
  branch_trees (branches.EachPart t) = map (λ part. part ∷ []) (parts (tree_of types t.0))
  branch_trees (branches.EachSnap t) = map (λ part. snap part ∷ []) (parts (tree_of types t.0))

  -- there is a type at this position
  abbrev pub IsBelow : TypeId → Type 0
  IsBelow t = t.0 < length types.rows

  -- there is a type at this position, with a part of this index
  abbrev pub HasPart : TypeId → ℕ → Type 0
  HasPart t index = IsBelow t × (index < length (parts (tree_of types t.0)))

  abbrev pub IsPlacedWanted : Wanted → Type 0
  IsPlacedWanted (wanted.At t) = IsBelow t
  IsPlacedWanted (wanted.Snap t) = IsBelow t
  IsPlacedWanted (wanted.BoxOfSnap t) = IsBelow t
  IsPlacedWanted (wanted.Variant t index) = HasPart t index
  IsPlacedWanted _ = Unit {0}

  abbrev pub IsPlacedList : Listed → Type 0
  IsPlacedList lists.Nothing = Unit {0}
  IsPlacedList (lists.One a) = IsPlacedWanted a
  IsPlacedList (lists.Two a b) = IsPlacedWanted a × IsPlacedWanted b
  IsPlacedList (lists.Three a b d) = IsPlacedWanted a × IsPlacedWanted b × IsPlacedWanted d
  IsPlacedList (lists.Parts t) = IsBelow t
  IsPlacedList (lists.Snaps t) = IsBelow t
  IsPlacedList (lists.Params f) = f < length types.functions
  IsPlacedList (lists.Results f) = f < length types.functions

  abbrev pub ArePlaced : Branches → Type 0
  ArePlaced (branches.Single a) = IsPlacedList a
  ArePlaced (branches.Double a b) = IsPlacedList a × IsPlacedList b
  ArePlaced (branches.EachPart t) = IsBelow t
  ArePlaced (branches.EachSnap t) = IsBelow t

  -- the libfunc's positions are of types, or of functions
  abbrev pub IsPlaced : Libfunc → Type 0
  IsPlaced (libfuncs.Rename t) = IsBelow t
  IsPlaced (libfuncs.Dup t) = IsBelow t
  IsPlaced (libfuncs.Drop t) = IsBelow t
  IsPlaced (libfuncs.StoreTemp t) = IsBelow t
  IsPlaced (libfuncs.StoreLocal t) = IsBelow t
  IsPlaced (libfuncs.AllocLocal t) = IsBelow t
  IsPlaced (libfuncs.FunctionCall f) = f < length types.functions
  IsPlaced (libfuncs.EnumInit t index) = HasPart t index
  IsPlaced (libfuncs.EnumMatch t) = IsBelow t
  IsPlaced (libfuncs.EnumSnapshotMatch t) = IsBelow t
  IsPlaced (libfuncs.StructConstruct t) = IsBelow t
  IsPlaced (libfuncs.StructDeconstruct t) = IsBelow t
  IsPlaced (libfuncs.StructSnapshotDeconstruct t) = IsBelow t
  IsPlaced (libfuncs.SnapshotTake t) = IsBelow t
  IsPlaced (libfuncs.IntoBox t) = IsBelow t
  IsPlaced (libfuncs.Unbox t) = IsBelow t
  IsPlaced (libfuncs.ArrayNew t) = IsBelow t
  IsPlaced (libfuncs.ArrayAppend t) = IsBelow t
  IsPlaced (libfuncs.ArrayLen t) = IsBelow t
  IsPlaced (libfuncs.ArrayGet t) = IsBelow t
  IsPlaced (libfuncs.ArrayPopFront t) = IsBelow t
  IsPlaced _ = Unit {0}

  -- what a search tells: the position of the type, or that it isn't declared
  pub record Finds (ty : Ty) (found : Option TypeId) : Type 0 where
    pub exactly : (t : TypeId) → (found ≡ Some t) ↔ HasTree types t.0 ty

  -- the positions of these types, or that one isn't declared
  abbrev pub FindsAll : List Ty → Option (List TypeId) → Type 0
  FindsAll tys (Some ts) = AreTrees types ts tys
  FindsAll tys None = All (IsInTable types) tys → ⊥

  abbrev pub FindsEach : List (List Ty) → Option (List (List TypeId)) → Type 0
  FindsEach tyss (Some tss) = AllZip (AreTrees types) tss tyss
  FindsEach tyss None = All (All (IsInTable types)) tyss → ⊥

-- these are the types that the libfunc takes
pub record IsTaken (libfunc : Libfunc) (listed : Listed) : Type 0 where
  pub trees : (types : TypesView) → listed_trees types listed ≡ takes (fam_of types libfunc)
  pub placed : (types : TypesView) → IsPlaced types libfunc → IsPlacedList types listed

-- these are the types that the libfunc gives
pub record IsGiven (libfunc : Libfunc) (given : Branches) : Type 0 where
  pub trees : (types : TypesView) → branch_trees types given ≡ gives (fam_of types libfunc)
  pub placed : (types : TypesView) → IsPlaced types libfunc → ArePlaced types given
