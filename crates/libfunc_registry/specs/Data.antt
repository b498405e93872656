-- Enums, structs, snapshots and boxes.
use Rattle.std.specs.Prelude.{ℕ, List, [], ◌∷◌, codes, map, slice_index_or}
use Rattle.type_trees.specs.Ty.{Ty, range_check, box, snap}
use Rattle.type_table.specs.Trees.{parts}
use Rattle.libfunc_registry.specs.declared.libfunc.Libfunc.TheVariants as libfuncs
use Rattle.libfunc_registry.specs.Arguments.{Form, a_type, an_enum, a_variant, a_struct}

-- the generic libfuncs, with what they take as arguments
unfoldable pub data_rows : List (List ℕ × Form)
data_rows =
    (codes "enum_init", a_variant libfuncs.EnumInit)
    ∷ (codes "enum_match", an_enum libfuncs.EnumMatch)
    ∷ (codes "enum_snapshot_match", an_enum libfuncs.EnumSnapshotMatch)
    ∷ (codes "struct_construct", a_struct libfuncs.StructConstruct)
    ∷ (codes "struct_deconstruct", a_struct libfuncs.StructDeconstruct)
    ∷ (codes "struct_snapshot_deconstruct", a_struct libfuncs.StructSnapshotDeconstruct)
    ∷ (codes "snapshot_take", a_type libfuncs.SnapshotTake)
    ∷ (codes "into_box", a_type libfuncs.IntoBox)
    ∷ (codes "unbox", a_type libfuncs.Unbox)
    ∷ []

-- the variant of an enum at an index
abbrev pub part_at : Ty → ℕ → Ty
part_at ty index = slice_index_or (parts ty) index range_check

-- the families; of `enum_init` the variant's index
pub data DataFam : Type 0 where
  enum_init : Ty → ℕ → DataFam
  enum_match : Ty → DataFam
  enum_snapshot_match : Ty → DataFam
  struct_construct : Ty → DataFam
  struct_deconstruct : Ty → DataFam
  struct_snapshot_deconstruct : Ty → DataFam
  snapshot_take : Ty → DataFam
  into_box : Ty → DataFam
  unbox : Ty → DataFam

-- the types of the arguments; an enum's parts are its variants, a struct's its members
abbrev pub data_takes : DataFam → List Ty
data_takes (enum_init ty index) = part_at ty index ∷ []
data_takes (enum_match ty) = ty ∷ []
data_takes (enum_snapshot_match ty) = snap ty ∷ []
data_takes (struct_construct ty) = parts ty
data_takes (struct_deconstruct ty) = ty ∷ []
data_takes (struct_snapshot_deconstruct ty) = snap ty ∷ []
data_takes (snapshot_take ty) = ty ∷ []
data_takes (into_box ty) = ty ∷ []
data_takes (unbox ty) = box ty ∷ []

-- the types of the results of each branch
abbrev pub data_gives : DataFam → List (List Ty)
data_gives (enum_init ty index) = (ty ∷ []) ∷ []
data_gives (enum_match ty) = map (λ variant. variant ∷ []) (parts ty)
data_gives (enum_snapshot_match ty) = map (λ variant. snap variant ∷ []) (parts ty)
data_gives (struct_construct ty) = (ty ∷ []) ∷ []
data_gives (struct_deconstruct ty) = parts ty ∷ []
data_gives (struct_snapshot_deconstruct ty) = map snap (parts ty) ∷ []
data_gives (snapshot_take ty) = (ty ∷ snap ty ∷ []) ∷ []
data_gives (into_box ty) = (box ty ∷ []) ∷ []
data_gives (unbox ty) = (ty ∷ []) ∷ []
