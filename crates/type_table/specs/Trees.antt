-- The parts of a type's tree: what kind of type it is, the name behind `ut@`, its type arguments, and what is asked of
-- them; and the facts that the table keeps of it.
use Rattle.std.specs.Prelude.{ℕ, ◌≡◌, ◌≤◌, List, [], ◌∷◌, true, false, ◌==◌, Option, Some, None}
use Rattle.type_trees.specs.Ty.{Ty, Tys, number, nonzero, range_check, gas_builtin, box, array, snapshot, struct, enum, dict, dict_entry, squashed_dict, uninitialized, no_types, types, size, storable, droppable, duplicable, holds_dict}
use Rattle.type_table.specs.declared.type_id.TypeInfo.{TypeInfo}
use Rattle.type_table.specs.declared.generic.Generic.{Generic}
use Rattle.type_table.specs.declared.generic.Generic.TheVariants as generics
use Rattle.type_table.specs.declared.kind.TypeKind.{TypeKind}
use Rattle.type_table.specs.declared.kind.TypeKind.TheVariants as kinds

-- what kind of type it is
abbrev pub kind_of : Ty → TypeKind
kind_of (number num) = kinds.Number num
kind_of (nonzero num) = kinds.NonZero num
kind_of range_check = kinds.RangeCheck
kind_of gas_builtin = kinds.GasBuiltin
kind_of (box ty) = kinds.Box
kind_of (array ty) = kinds.Array
kind_of (snapshot ty) = kinds.Snapshot
kind_of (struct name tys) = kinds.Struct
kind_of (enum name tys) = kinds.Enum
kind_of (dict num) = kinds.Dict num
kind_of (dict_entry num) = kinds.DictEntry num
kind_of (squashed_dict num) = kinds.SquashedDict num
kind_of (uninitialized ty) = kinds.Uninitialized

-- the generic type of which it is one
abbrev pub generic_of : TypeKind → Generic
generic_of (kinds.Number num) = generics.Number num
generic_of (kinds.NonZero num) = generics.NonZero
generic_of kinds.RangeCheck = generics.RangeCheck
generic_of kinds.GasBuiltin = generics.GasBuiltin
generic_of kinds.Box = generics.Box
generic_of kinds.Array = generics.Array
generic_of kinds.Snapshot = generics.Snapshot
generic_of kinds.Struct = generics.Struct
generic_of kinds.Enum = generics.Enum
generic_of (kinds.Dict num) = generics.Dict
generic_of (kinds.DictEntry num) = generics.DictEntry
generic_of (kinds.SquashedDict num) = generics.SquashedDict
generic_of kinds.Uninitialized = generics.Uninitialized

-- the name behind `ut@`
abbrev pub user_of : Ty → Option (List ℕ)
user_of (struct name tys) = Some name
user_of (enum name tys) = Some name
user_of _ = None

-- members or variants as a list
abbrev pub listed : Tys → List Ty
listed no_types = []
listed (types ty tys) = ty ∷ listed tys

-- the type arguments, in order
abbrev pub parts : Ty → List Ty
parts (number num) = []
parts (nonzero num) = number num ∷ []
parts range_check = []
parts gas_builtin = []
parts (box ty) = ty ∷ []
parts (array ty) = ty ∷ []
parts (snapshot ty) = ty ∷ []
parts (struct name tys) = listed tys
parts (enum name tys) = listed tys
parts (dict num) = number num ∷ []
parts (dict_entry num) = number num ∷ []
parts (squashed_dict num) = number num ∷ []
parts (uninitialized ty) = ty ∷ []

-- a value of the type may be an element: it may be stored, takes a cell, and no dictionary is in it
pub record IsElement (ty : Ty) : Type 0 where
  pub stored : storable ty ≡ true
  pub takes_cells : 1 ≤ size ty
  pub no_dict : holds_dict ty ≡ false

-- a snapshot is of such a type: a type whose values may be duplicated is its own
pub record HasSnapshots (ty : Ty) : Type 0 where
  pub no_duplicates : duplicable ty ≡ false
  pub stored : storable ty ≡ true
  pub no_dict : holds_dict ty ≡ false

-- what is asked of sizes, abilities and dictionaries of the type argument
abbrev pub IsAllowed : Ty → Type 0
IsAllowed (box ty) = IsElement ty
IsAllowed (array ty) = IsElement ty
IsAllowed (snapshot ty) = HasSnapshots ty
IsAllowed (uninitialized ty) = storable ty ≡ true
IsAllowed _ = Unit {0}

-- what is told of a type
abbrev pub info_of : Ty → TypeInfo
info_of ty = record { size = size ty; storable = storable ty; drop = droppable ty; dup = duplicable ty; zero_sized = size ty == 0; holds_dict = holds_dict ty }
