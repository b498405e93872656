-- What a table's fields tell of its view.
use Rattle.std.proofs.Common.{◌≡◌, ◌↔◌, ℕ, ◌<◌, List, length, Some, option_map, slice_get, slice_index_or, refl, ap, subst, ◌∙◌}
use Rattle.std.proofs.lemmas.Option.{slice_get-map, slice_get_read}
use Rattle.std.proofs.lemmas.List.{length-map}
use Rattle.type_table.specs.declared.type_id.TypeId.{TypeId}
use Rattle.type_table.specs.declared.kind.Shape.{Shape}
use Rattle.type_table.specs.declared.row.Row.{Row}
use Rattle.type_table.specs.declared.row.Signature.{Signature}
use Rattle.type_table.specs.View.{TypesView, IsRow, HasTree}
use Rattle.type_table.specs.Shapes.{shaped}
use Rattle.type_table.specs.Kept.{IsKept, table_view, row_view}
use Rattle.type_table.specs.Lookups.{found, found_shape}
use Rattle.type_table.proofs.LookupLaws.{found-numbered}

module _ {ids : List (List ℕ × ℕ)} {rows : List Row} {shapes : List (Shape × TypeId)} {function_ids : List (List ℕ × ℕ)} {functions : List Signature}
    (kept : IsKept ids rows shapes function_ids functions) (view : TypesView) (is : table_view ids rows function_ids functions ≡ view) where
  pub row_right : (i : ℕ) (row : Row) → i < length view.rows → row ≡ slice_index_or rows i row → IsRow view i (row_view row)
  row_right i row = subst (λ v. i < length v.rows → row ≡ slice_index_or rows i row → IsRow v i (row_view row)) is (λ below read.
      kept.table.rows_right i (row_view row)
      (slice_get-map row_view rows i ∙ ap (option_map row_view) (slice_get_read rows (length rows) i row refl (subst (λ n. i < n) (length-map rows row_view) below) read)))

  pub id_found : (name : List ℕ) (i : ℕ) → (found ids name ≡ Some i) ↔ (slice_get view.ids i ≡ Some name)
  id_found name i = subst (λ v. (found ids name ≡ Some i) ↔ (slice_get v.ids i ≡ Some name)) is (found-numbered ids kept.ids_numbered kept.table.id_once name i)

  pub function_found : (name : List ℕ) (i : ℕ) → (found function_ids name ≡ Some i) ↔ (slice_get view.function_ids i ≡ Some name)
  function_found name i = subst (λ v. (found function_ids name ≡ Some i) ↔ (slice_get v.function_ids i ≡ Some name)) is
      (found-numbered function_ids kept.function_ids_numbered kept.table.function_id_once name i)

  pub shape_found : (shape : Shape) (t : TypeId) → (found_shape shapes shape ≡ Some t) ↔ HasTree view t.0 (shaped view shape)
  shape_found shape t = subst (λ v. (found_shape shapes shape ≡ Some t) ↔ HasTree v t.0 (shaped v shape)) is (kept.shapes_right shape t)
