-- Types as trees: what a declared type is, without the ids that a program gives it. The name behind `ut@` is part of
-- the tree, so equal trees are equal types. Size, abilities and depth are recursions on the tree, one line for each
-- generic type.
use Rattle.std.specs.Prelude.{ℕ, ◌+◌, max, List, codes, Bool, true, false, ◌&&◌, ◌||◌, not, if◌then◌else◌}
use Rattle.type_trees.specs.declared.num.Num.{Num}
use Rattle.type_trees.specs.declared.num.Num.TheVariants as num

mutual
  pub data Ty : Type 0 where
    number : Num → Ty
    nonzero : Num → Ty
    range_check : Ty
    gas_builtin : Ty
    box : Ty → Ty
    array : Ty → Ty
    snapshot : Ty → Ty
    struct : List ℕ → Tys → Ty
    enum : List ℕ → Tys → Ty
    dict : Num → Ty
    dict_entry : Num → Ty
    squashed_dict : Num → Ty
    uninitialized : Ty → Ty

  -- the members of a struct, or the variants of an enum, in order
  pub data Tys : Type 0 where
    no_types : Tys
    types : Ty → Tys → Tys

-- the generic name of a type of numbers
abbrev pub number_name : Num → List ℕ
number_name num.Felt64 = codes "felt64"
number_name num.U8 = codes "u8"
number_name num.U16 = codes "u16"
number_name num.U32 = codes "u32"

abbrev mutual
  -- how many cells a value takes
  pub size : Ty → ℕ
  size (number k) = 1
  size (nonzero k) = 1
  size range_check = 1
  size gas_builtin = 1
  size (box ty) = 1
  size (array ty) = 2
  size (snapshot ty) = size ty
  size (struct name tys) = size_together tys
  size (enum name tys) = 1 + greatest_size tys
  size (dict k) = 2
  size (dict_entry k) = 2
  size (squashed_dict k) = 2
  size (uninitialized ty) = size ty

  pub size_together : Tys → ℕ
  size_together no_types = 0
  size_together (types ty tys) = size ty + size_together tys

  pub greatest_size : Tys → ℕ
  greatest_size no_types = 0
  greatest_size (types ty tys) = max (size ty) (greatest_size tys)

-- whether a value may be stored in cells
abbrev mutual
  pub storable : Ty → Bool
  storable (number k) = true
  storable (nonzero k) = true
  storable range_check = true
  storable gas_builtin = true
  storable (box ty) = true
  storable (array ty) = true
  storable (snapshot ty) = true
  storable (struct name tys) = all_storable tys
  storable (enum name tys) = all_storable tys
  storable (dict k) = true
  storable (dict_entry k) = true
  storable (squashed_dict k) = true
  storable (uninitialized ty) = false

  pub all_storable : Tys → Bool
  all_storable no_types = true
  all_storable (types ty tys) = storable ty && all_storable tys

-- whether a value may be dropped
abbrev mutual
  pub droppable : Ty → Bool
  droppable (number k) = true
  droppable (nonzero k) = true
  droppable range_check = false
  droppable gas_builtin = false
  droppable (box ty) = droppable ty
  droppable (array ty) = droppable ty
  droppable (snapshot ty) = true
  droppable (struct name tys) = all_droppable tys
  droppable (enum name tys) = all_droppable tys
  droppable (dict k) = false
  droppable (dict_entry k) = false
  droppable (squashed_dict k) = true
  droppable (uninitialized ty) = true

  pub all_droppable : Tys → Bool
  all_droppable no_types = true
  all_droppable (types ty tys) = droppable ty && all_droppable tys

-- whether a value may be duplicated
abbrev mutual
  pub duplicable : Ty → Bool
  duplicable (number k) = true
  duplicable (nonzero k) = true
  duplicable range_check = false
  duplicable gas_builtin = false
  duplicable (box ty) = duplicable ty
  duplicable (array ty) = false
  duplicable (snapshot ty) = true
  duplicable (struct name tys) = all_duplicable tys
  duplicable (enum name tys) = all_duplicable tys
  duplicable (dict k) = false
  duplicable (dict_entry k) = false
  duplicable (squashed_dict k) = false
  duplicable (uninitialized ty) = false

  pub all_duplicable : Tys → Bool
  all_duplicable no_types = true
  all_duplicable (types ty tys) = duplicable ty && all_duplicable tys

-- whether a dictionary, or an open entry of one, is in a value
abbrev mutual
  pub holds_dict : Ty → Bool
  holds_dict (number k) = false
  holds_dict (nonzero k) = false
  holds_dict range_check = false
  holds_dict gas_builtin = false
  holds_dict (box ty) = false
  holds_dict (array ty) = false
  holds_dict (snapshot ty) = false
  holds_dict (struct name tys) = any_holds_dict tys
  holds_dict (enum name tys) = any_holds_dict tys
  holds_dict (dict k) = true
  holds_dict (dict_entry k) = true
  holds_dict (squashed_dict k) = false
  holds_dict (uninitialized ty) = holds_dict ty

  pub any_holds_dict : Tys → Bool
  any_holds_dict no_types = false
  any_holds_dict (types ty tys) = holds_dict ty || any_holds_dict tys

-- A type without type arguments has depth 1, any other one more than the greatest depth of its type arguments. The
-- number in a `NonZero` or a dictionary is a type argument.
abbrev mutual
  pub depth : Ty → ℕ
  depth (number k) = 1
  depth (nonzero k) = 2
  depth range_check = 1
  depth gas_builtin = 1
  depth (box ty) = 1 + depth ty
  depth (array ty) = 1 + depth ty
  depth (snapshot ty) = 1 + depth ty
  depth (struct name tys) = 1 + greatest_depth tys
  depth (enum name tys) = 1 + greatest_depth tys
  depth (dict k) = 2
  depth (dict_entry k) = 2
  depth (squashed_dict k) = 2
  depth (uninitialized ty) = 1 + depth ty

  pub greatest_depth : Tys → ℕ
  greatest_depth no_types = 0
  greatest_depth (types ty tys) = max (depth ty) (greatest_depth tys)

-- whether an array is in a type, at any depth
abbrev mutual
  pub holds_array : Ty → Bool
  holds_array (number k) = false
  holds_array (nonzero k) = false
  holds_array range_check = false
  holds_array gas_builtin = false
  holds_array (box ty) = holds_array ty
  holds_array (array ty) = true
  holds_array (snapshot ty) = holds_array ty
  holds_array (struct name tys) = any_holds_array tys
  holds_array (enum name tys) = any_holds_array tys
  holds_array (dict k) = false
  holds_array (dict_entry k) = false
  holds_array (squashed_dict k) = false
  holds_array (uninitialized ty) = holds_array ty

  pub any_holds_array : Tys → Bool
  any_holds_array no_types = false
  any_holds_array (types ty tys) = holds_array ty || any_holds_array tys

-- Plain types are those that main may take and give: numbers, structs and enums of plain types, and arrays of a plain
-- type in which there is no array.
abbrev mutual
  pub is_plain : Ty → Bool
  is_plain (number k) = true
  is_plain (nonzero k) = false
  is_plain range_check = false
  is_plain gas_builtin = false
  is_plain (box ty) = false
  is_plain (array ty) = is_plain ty && not (holds_array ty)
  is_plain (snapshot ty) = false
  is_plain (struct name tys) = all_plain tys
  is_plain (enum name tys) = all_plain tys
  is_plain (dict k) = false
  is_plain (dict_entry k) = false
  is_plain (squashed_dict k) = false
  is_plain (uninitialized ty) = false

  pub all_plain : Tys → Bool
  all_plain no_types = true
  all_plain (types ty tys) = is_plain ty && all_plain tys

-- the type of a snapshot of a type: a type whose values may be duplicated is its own snapshot
abbrev pub snap : Ty → Ty
snap ty = if duplicable ty then ty else snapshot ty
