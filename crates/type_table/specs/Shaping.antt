-- The shape of a type, by its row and the rows of its type arguments, as the code finds it.
use Rattle.std.specs.Prelude.{ℕ, ◌≡◌, List, [], ◌∷◌, Bool, false, Option, Some, None, option_map, option_and_then, slice_get, if◌then◌else◌, bytes_eq, codes}
use Rattle.type_trees.specs.Ty.{Ty}
use Rattle.type_trees.specs.declared.num.Num.{Num}
use Rattle.type_trees.specs.declared.num.Num.TheVariants as nums
use Rattle.type_table.specs.declared.kind.TypeKind.{TypeKind}
use Rattle.type_table.specs.declared.kind.TypeKind.TheVariants as kinds
use Rattle.type_table.specs.declared.kind.Shape.{Shape}
use Rattle.type_table.specs.declared.kind.Shape.TheVariants as shapes
use Rattle.type_table.specs.declared.row.Row.{Row}
use Rattle.type_table.specs.declared.type_id.TypeId.{TypeId}
use Rattle.type_table.specs.View.{TypesView, HasTree, IsRow}
use Rattle.type_table.specs.Kept.{row_view, table_view}
use Rattle.type_table.specs.Lookups.{same_num}

-- a table of these types alone
abbrev pub view_of : List Row → TypesView
view_of rows = table_view [] rows [] []

-- the rows are those of types, each at one position alone
pub record AreDistinct (rows : List Row) : Type 0 where
  pub rows_right : (i : ℕ) (row : Row) → slice_get rows i ≡ Some row → IsRow (view_of rows) i (row_view row)
  pub tree_once : (i j : ℕ) (ty : Ty) → HasTree (view_of rows) i ty → HasTree (view_of rows) j ty → i ≡ j

abbrev pub number_of : TypeKind → Option Num
number_of (kinds.Number num) = Some num
number_of _ = None

-- the number that the type at a position is
abbrev pub number_at : List Row → TypeId → Option Num
number_at rows t = option_and_then (λ row. number_of row.kind) (slice_get rows t.0)

abbrev pub one_number : Num → Num → Option Num
one_number a b = if same_num a b then Some a else None

-- of a key and two values, the number of these
abbrev pub access_of : Option Num → Option Num → Option Num → Option Num
access_of (Some nums.Felt64) (Some a) (Some b) = one_number a b
access_of _ _ _ = None

abbrev pub access_in : List Row → List TypeId → Option Num
access_in rows [] = None
access_in rows (key ∷ []) = None
access_in rows (key ∷ before ∷ []) = None
access_in rows (key ∷ before ∷ after ∷ []) = access_of (number_at rows key) (number_at rows before) (number_at rows after)
access_in rows (key ∷ before ∷ after ∷ other ∷ more) = None

abbrev pub is_tuple : Option (List ℕ) → Bool
is_tuple None = false
is_tuple (Some name) = bytes_eq name (codes "Tuple")

abbrev pub shape_of_first : (TypeId → Shape) → List TypeId → Option Shape
shape_of_first made [] = None
shape_of_first made (t ∷ ts) = Some (made t)

abbrev pub shape_given : List Row → TypeKind → Option (List ℕ) → List TypeId → Option Shape
shape_given rows (kinds.Number num) user members = Some (shapes.Number num)
shape_given rows (kinds.NonZero num) user members = Some (shapes.NonZero num)
shape_given rows kinds.RangeCheck user members = Some shapes.RangeCheck
shape_given rows kinds.GasBuiltin user members = Some shapes.GasBuiltin
shape_given rows kinds.Box user members = shape_of_first (λ t. shapes.Box t) members
shape_given rows kinds.Array user members = shape_of_first (λ t. shapes.Array t) members
shape_given rows kinds.Snapshot user members = shape_of_first (λ t. shapes.Snapshot t) members
shape_given rows kinds.Struct user members = if is_tuple user then option_map (λ num. shapes.Access num) (access_in rows members) else None
shape_given rows kinds.Enum user members = None
shape_given rows (kinds.Dict num) user members = Some (shapes.Dict num)
shape_given rows (kinds.DictEntry num) user members = Some (shapes.DictEntry num)
shape_given rows (kinds.SquashedDict num) user members = Some (shapes.SquashedDict num)
shape_given rows kinds.Uninitialized user members = shape_of_first (λ t. shapes.Uninitialized t) members

abbrev pub shape_of : List Row → Row → Option Shape
shape_of rows row = shape_given rows row.kind row.user row.members
