-- What a contract sees of a table of types: ids and rows, in declared order. A row says what kind of type it is, and of
-- which types it is made; so each type has a tree.
use Rattle.std.specs.Prelude.{ℕ, zero, suc, ◌≡◌, ◌<◌, ◌≤◌, List, [], ◌∷◌, map, length, Option, Some, slice_get}
use Rattle.std.specs.Option.{option_map_or, unwrap_or}
use Rattle.std.specs.List.{All}
use Rattle.type_trees.specs.Ty.{Ty, Tys, number, nonzero, range_check, gas_builtin, box, array, snapshot, struct, enum, dict, dict_entry, squashed_dict, uninitialized, no_types, types, size, depth}
use Rattle.type_table.specs.declared.type_id.TypeId.{TypeId}
use Rattle.type_table.specs.declared.kind.TypeKind.{TypeKind}
use Rattle.type_table.specs.declared.kind.TypeKind.TheVariants as kinds
use Rattle.type_table.specs.Trees.{kind_of, user_of, parts, IsAllowed}
use Rattle.type_table.specs.IsType.{most_cells, most_arguments, most_depth}
use Rattle.type_table.specs.Parts.{HasOrdinaryParts}

pub record RowView : Type 0 where
  pub kind : TypeKind
  pub user : Option (List ℕ)
  pub members : List TypeId

pub record FunctionView : Type 0 where
  pub params : List TypeId
  pub results : List TypeId

pub record TypesView : Type 0 where
  pub ids : List (List ℕ)
  pub rows : List RowView
  pub function_ids : List (List ℕ)
  pub functions : List FunctionView

-- a list of types as members or variants
abbrev pub joined : List Ty → Tys
joined [] = no_types
joined (ty ∷ tys) = types ty (joined tys)

-- the type argument of a type that has one
abbrev pub only : List Ty → Ty
only [] = range_check
only (ty ∷ tys) = ty

-- the type of this kind, with this name behind `ut@` and these type arguments
abbrev pub made_of : TypeKind → List ℕ → List Ty → Ty
made_of (kinds.Number num) name tys = number num
made_of (kinds.NonZero num) name tys = nonzero num
made_of kinds.RangeCheck name tys = range_check
made_of kinds.GasBuiltin name tys = gas_builtin
made_of kinds.Box name tys = box (only tys)
made_of kinds.Array name tys = array (only tys)
made_of kinds.Snapshot name tys = snapshot (only tys)
made_of kinds.Struct name tys = struct name (joined tys)
made_of kinds.Enum name tys = enum name (joined tys)
made_of (kinds.Dict num) name tys = dict num
made_of (kinds.DictEntry num) name tys = dict_entry num
made_of (kinds.SquashedDict num) name tys = squashed_dict num
made_of kinds.Uninitialized name tys = uninitialized (only tys)

-- Where there is no type. A table has no type that is made of it, since no box, array, snapshot or uninitialized type may be.
abbrev pub no_type : Ty
no_type = uninitialized range_check

-- the tree at a position, as far as it is no deeper than this
abbrev pub tree_within : ℕ → List RowView → ℕ → Ty
tree_within zero rows i = no_type
tree_within (suc most) rows i =
    option_map_or (λ row. made_of row.kind (unwrap_or row.user []) (map (λ t. tree_within most rows t.0) row.members)) (slice_get rows i) no_type

-- the tree of the type at a position
unfoldable pub tree_at : List RowView → ℕ → Ty
tree_at rows i = tree_within most_depth rows i

abbrev pub tree_of : TypesView → ℕ → Ty
tree_of view i = tree_at view.rows i

abbrev pub trees_at : List RowView → List TypeId → List Ty
trees_at rows ts = map (λ t. tree_at rows t.0) ts

abbrev pub trees_of : TypesView → List TypeId → List Ty
trees_of view ts = trees_at view.rows ts

-- the type at position i is this one
pub record HasTree (view : TypesView) (i : ℕ) (ty : Ty) : Type 0 where
  pub below : i < length view.rows
  pub tree : tree_of view i ≡ ty

-- the tree is that of some declared type
abbrev pub IsInTable : TypesView → Ty → Type 0
IsInTable view ty = (i : ℕ) × HasTree view i ty

-- what holds of the type at each position
pub record IsRow (view : TypesView) (i : ℕ) (row : RowView) : Type 0 where
  pub kind : row.kind ≡ kind_of (tree_of view i)
  pub user : row.user ≡ user_of (tree_of view i)
  pub members : trees_of view row.members ≡ parts (tree_of view i)
  pub below : All (λ t. t.0 < length view.rows) row.members
  pub few_members : length row.members ≤ most_arguments
  pub ordinary : HasOrdinaryParts (tree_of view i)
  pub allowed : IsAllowed (tree_of view i)
  pub few_cells : size (tree_of view i) ≤ most_cells
  pub shallow : depth (tree_of view i) ≤ most_depth

pub record IsFunction (view : TypesView) (f : FunctionView) : Type 0 where
  pub params : All (λ t. t.0 < length view.rows) f.params
  pub results : All (λ t. t.0 < length view.rows) f.results

-- what a table keeps: each id and each tree is at one position alone, and each type is made of types of the table
pub record IsTable (view : TypesView) : Type 0 where
  pub each_named : length view.ids ≡ length view.rows
  pub id_once : (i j : ℕ) (id : List ℕ) → slice_get view.ids i ≡ Some id → slice_get view.ids j ≡ Some id → i ≡ j
  pub tree_once : (i j : ℕ) (ty : Ty) → HasTree view i ty → HasTree view j ty → i ≡ j
  pub rows_right : (i : ℕ) (row : RowView) → slice_get view.rows i ≡ Some row → IsRow view i row
  pub each_function_named : length view.function_ids ≡ length view.functions
  pub function_id_once : (i j : ℕ) (id : List ℕ) → slice_get view.function_ids i ≡ Some id → slice_get view.function_ids j ≡ Some id → i ≡ j
  pub functions_right : (i : ℕ) (f : FunctionView) → slice_get view.functions i ≡ Some f → IsFunction view f
