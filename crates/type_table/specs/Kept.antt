-- What a table keeps of its fields.
use Rattle.std.specs.Prelude.{ℕ, ◌≡◌, ◌↔◌, List, map, Some, slice_get}
use Rattle.type_trees.specs.Ty.{is_plain}
use Rattle.type_table.specs.declared.type_id.TypeId.{TypeId}
use Rattle.type_table.specs.declared.kind.Shape.{Shape}
use Rattle.type_table.specs.declared.row.Row.{Row}
use Rattle.type_table.specs.declared.row.Signature.{Signature}
use Rattle.type_table.specs.Generics.{generic_name}
use Rattle.type_table.specs.Trees.{kind_of, generic_of, info_of}
use Rattle.type_table.specs.View.{TypesView, RowView, FunctionView, tree_of, HasTree, IsTable}
use Rattle.type_table.specs.Shapes.{shaped}
pub use Rattle.type_table.specs.Lookups.{AreNumbered}
use Rattle.type_table.specs.Lookups.{names_in, found_shape}

abbrev pub row_view : Row → RowView
row_view row = record { kind = row.kind; user = row.user; members = row.members }

abbrev pub function_view : Signature → FunctionView
function_view f = record { params = f.params; results = f.results }

abbrev pub table_view : List (List ℕ × ℕ) → List Row → List (List ℕ × ℕ) → List Signature → TypesView
table_view ids rows function_ids functions =
    record { ids = names_in ids; rows = map row_view rows; function_ids = names_in function_ids; functions = map function_view functions }

-- what a row tells of the type at position i
pub record IsFull (view : TypesView) (i : ℕ) (row : Row) : Type 0 where
  pub generic : row.generic ≡ generic_name (generic_of (kind_of (tree_of view i)))
  pub info : row.info ≡ info_of (tree_of view i)
  pub plain : row.plain ≡ is_plain (tree_of view i)

pub record IsKept (ids : List (List ℕ × ℕ)) (rows : List Row) (shapes : List (Shape × TypeId)) (function_ids : List (List ℕ × ℕ)) (functions : List Signature) : Type 0 where
  pub table : IsTable (table_view ids rows function_ids functions)
  pub ids_numbered : AreNumbered ids
  pub rows_full : (i : ℕ) (row : Row) → slice_get rows i ≡ Some row → IsFull (table_view ids rows function_ids functions) i row
  pub shapes_right : (shape : Shape) (t : TypeId) → (found_shape shapes shape ≡ Some t) ↔ HasTree (table_view ids rows function_ids functions) t.0 (shaped (table_view ids rows function_ids functions) shape)
  pub function_ids_numbered : AreNumbered function_ids
