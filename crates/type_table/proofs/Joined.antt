-- A table made of the rows of types and of functions is that of the program.
use Rattle.std.proofs.Common.{◌≡◌, ℕ, List, map, length, Some, option_map, slice_get, ap, sym, subst, ◌∙◌}
use Rattle.std.proofs.lemmas.List.{length-map}
use Rattle.std.proofs.lemmas.Option.{slice_get-map}
use Rattle.sierra_types.specs.declared.program.Program.{Program}
use Rattle.sierra_types.specs.declared.program.Function.{Function}
use Rattle.type_table.specs.declared.row.Row.{Row}
use Rattle.type_table.specs.declared.row.Signature.{Signature}
use Rattle.type_table.specs.Naming.{place_of, ids_of}
use Rattle.type_table.specs.Trees.{kind_of, info_of}
use Rattle.type_table.specs.Lookups.{found, names_in}
use Rattle.type_table.specs.Refusals.{parameter_types}
use Rattle.type_table.specs.View.{FunctionView, tree_at}
use Rattle.type_table.specs.Kept.{row_view, function_view, table_view}
use Rattle.type_table.specs.Table.{HasSignature, HasTypes}
use Rattle.type_table.specs.Functions.{IsRowOf, HasRows, HasFunctions}
use Rattle.type_table.proofs.DecidedLists.{map_at}
use Rattle.type_table.proofs.DecidedRows.{AreRows, tree_is, type_named_at}
use Rattle.type_table.proofs.DecidedViews.{HasFunctionsOf, has_types}

module _ (p : Program) (rows : List Row) (are : AreRows p.types (map row_view rows) (length p.types)) where
  -- the rows of the types are what the functions ask, if each has the info of its tree
  pub has_rows : (positions : List (List ℕ × ℕ)) → ((id : List ℕ) → found positions id ≡ place_of (ids_of p.types) id)
      → ((i : ℕ) (row : Row) → slice_get rows i ≡ Some row → row.info ≡ info_of (tree_at (map row_view rows) i)) → HasRows p positions rows
  has_rows positions first infos = record { first = first; each = sym (length-map rows row_view) ∙ are.long; right = right }
    where
      right : (i : ℕ) (id : List ℕ) (row : Row) → slice_get (ids_of p.types) i ≡ Some id → slice_get rows i ≡ Some row → IsRowOf p row id
      right i id row named here =
          let view : slice_get (map row_view rows) i ≡ Some (row_view row) = slice_get-map row_view rows i ∙ ap (option_map row_view) here in
          let is = are.each i (row_view row) view in
          record {
            ty = tree_at (map row_view rows) i;
            is = type_named_at p.types (map row_view rows) are i id named;
            kind = is.kind ∙ ap kind_of (sym (tree_is p.types (map row_view rows) are i (row_view row) view));
            storable = ap (λ info. info.storable) (infos i row here);
          }

  module _ (ids : List (List ℕ × ℕ)) (ids_are : names_in ids ≡ ids_of p.types) (function_ids : List (List ℕ × ℕ)) (functions : List Signature) (has : HasFunctions p function_ids functions) where
    signatures : (i : ℕ) (declared : Function) (f : FunctionView) → slice_get p.functions i ≡ Some declared → slice_get (map function_view functions) i ≡ Some f
        → HasSignature (table_view ids rows function_ids functions) declared f
    signatures i declared f here is =
        let (s, at, same) = map_at function_view functions i f is in
        let right = has.right i declared s here at in
        subst (HasSignature (table_view ids rows function_ids functions) declared) same (record {
          params = subst (λ names. map (λ id. Some id) (parameter_types declared) ≡ map (λ t. slice_get names t.0) s.params) (sym ids_are) right.params;
          results = subst (λ names. map (λ id. Some id) declared.results ≡ map (λ t. slice_get names t.0) s.results) (sym ids_are) right.results;
        })

    functions_of : HasFunctionsOf p (table_view ids rows function_ids functions)
    functions_of = record {
      function_ids = has.names;
      as_many = length-map functions function_view ∙ has.each;
      signatures = signatures;
      libfuncs_once = has.libfuncs_once;
      functions_pass = has.functions_pass;
    }

    -- the table is that of the program
    pub table_right : HasTypes p (table_view ids rows function_ids functions)
    table_right = has_types p (table_view ids rows function_ids functions) ids_are are functions_of
