-- The rows that are made of what is known are those of the table, and the first refusal of types is that of the program.
use Rattle.std.proofs.Common.{◌≡◌, ◌↔◌, ◌⊎◌, inl, inr, ℕ, ◌+◌, ◌≤◌, List, [], ◌∷◌, ◌++◌, map, length, Some, option_map, slice_get, refl, ap, sym, subst, ◌∙◌, arith}
use Rattle.std.specs.Prelude.{◌==◌}
use Rattle.std.proofs.lemmas.List.{length-map, length_push}
use Rattle.std.proofs.lemmas.Option.{slice_get-map, slice_get_within}
use Rattle.type_trees.specs.Ty.{Ty, size, storable, droppable, duplicable, holds_dict, is_plain}
use Rattle.sierra_types.specs.declared.program.Program.{Program}
use Rattle.sierra_types.specs.declared.program.TypeDecl.{TypeDecl}
use Rattle.type_table.specs.declared.fault.TypeFault.{TypeFault}
use Rattle.type_table.specs.declared.kind.Shape.{Shape}
use Rattle.type_table.specs.declared.outcome.Known.{Known}
use Rattle.type_table.specs.declared.row.Row.{Row}
use Rattle.type_table.specs.declared.row.Signature.{Signature}
use Rattle.type_table.specs.declared.rules.TypeRule.{TypeRule}
use Rattle.type_table.specs.declared.type_id.TypeId.{TypeId}
use Rattle.type_table.specs.Generics.{generic_name}
use Rattle.type_table.specs.Trees.{kind_of, generic_of, user_of, info_of}
use Rattle.type_table.specs.IsType.{most_cells, HasArgs}
use Rattle.type_table.specs.Lookups.{found_shape}
use Rattle.type_table.specs.Refusals.{FirstFault, Spot, in_type, in_libfunc, in_function, Breaks, BreaksType, ComesBefore}
use Rattle.type_table.specs.Resolving.{user_in}
use Rattle.type_table.specs.Rows.{targets}
use Rattle.type_table.specs.View.{RowView, tree_at, HasTree}
use Rattle.type_table.specs.Shapes.{shaped}
use Rattle.type_table.specs.Shaping.{view_of, AreDistinct}
use Rattle.type_table.specs.Kept.{row_view, table_view, IsKept}
use Rattle.type_table.specs.Table.{HasTypes}
use Rattle.type_table.specs.Facts.{facts_of, capped}
use Rattle.type_table.specs.Found.{IsKnownAt}
use Rattle.type_table.specs.Functions.{HasRows, HasFunctions, FirstBehindTypes}
use Rattle.type_table.specs.Made.{info_told, IsMadeOf, AreMadeTo, AreMade, AreTyped, FirstTypeFault}
use Rattle.type_table.proofs.Plain.{none-some, some_is}
use Rattle.type_table.proofs.Trees.{arguments_of}
use Rattle.type_table.proofs.Unique.{one_type_at, user_in-written}
use Rattle.type_table.proofs.OutcomeLaws.{type_breaks_none}
use Rattle.type_table.proofs.DecidedLists.{at_below, map_at, push_at}
use Rattle.type_table.proofs.DecidedRows.{IsRowAt, AreRows, tree_is}
use Rattle.type_table.proofs.Joined.{has_rows, table_right}
use Rattle.type_table.proofs.ShapeLaws.{distinct_rows, shapes_kept}
use Rattle.type_table.proofs.FunctionLaws.{first_fault}

cap_exact : (limit n : ℕ) → n ≤ limit → capped limit n ≡ n
cap_exact limit n few = omega (arith, few)

-- what is told of a type within the limits
info_exact : (ty : Ty) → size ty ≤ most_cells → info_told (facts_of ty) ≡ info_of ty
info_exact ty few =
    let same : capped most_cells (size ty) ≡ size ty = cap_exact most_cells (size ty) few in
    ap (λ n. record { size = n; storable = storable ty; drop = droppable ty; dup = duplicable ty; zero_sized = n == 0; holds_dict = holds_dict ty }) same

module _ (ds : List TypeDecl) where
  user_right : (ty : Ty) (d : TypeDecl) → HasArgs ds ty d → user_in d.args ≡ user_of ty
  user_right ty d args = let a = arguments_of ds ty d args in ap user_in a.args ∙ user_in-written (user_of ty) a.ids

  module _ (rows : List Row) (made : AreMade ds rows) where
    -- the row at a position, and what it is made of
    row_at : (i : ℕ) (row : Row) → slice_get rows i ≡ Some row → (d : TypeDecl) × (slice_get ds i ≡ Some d) × ((known : Known) × IsKnownAt ds i known × IsMadeOf d known (targets ds d) row)
    row_at i row here =
        let decl = at_below ds i (omega (arith, slice_get_within rows i row here, made.long)) in
        (decl.0, decl.1, made.each i decl.0 row decl.1 here)

    is_row_at : (i : ℕ) (row : Row) → slice_get rows i ≡ Some row → IsRowAt ds i (row_view row)
    is_row_at i row here =
        let (d, d_here, (known, k, m)) = row_at i row here in
        let same : k.at.decl ≡ d = some_is k.at.decl d (sym k.at.here ∙ d_here) in
        record {
          ty = k.ty;
          at = k.at;
          kind = m.kind ∙ k.kind;
          user = m.user ∙ ap (λ e. user_in e.args) (sym same) ∙ user_right k.ty k.at.decl k.at.args;
          members = m.members ∙ ap (λ e. map (λ t. record { 0 = t }) (targets ds e)) (sym same);
        }

    pub are_rows : AreRows ds (map row_view rows) (length ds)
    are_rows = record { long = length-map rows row_view ∙ made.long; each = each }
      where
        each : (i : ℕ) (row : RowView) → slice_get (map row_view rows) i ≡ Some row → IsRowAt ds i row
        each i row here = let (r, at, same) = map_at row_view rows i row here in subst (IsRowAt ds i) same (is_row_at i r at)

    tree_here : (i : ℕ) (row : Row) (here : slice_get rows i ≡ Some row) (known : Known) (k : IsKnownAt ds i known) → tree_at (map row_view rows) i ≡ k.ty
    tree_here i row here known k =
        let view = slice_get-map row_view rows i ∙ ap (option_map row_view) here in
        tree_is ds (map row_view rows) are_rows i (row_view row) view
        ∙ one_type_at ds (are_rows.each i (row_view row) view).ty k.ty i (are_rows.each i (row_view row) view).at k.at

    pub info_right : (i : ℕ) (row : Row) → slice_get rows i ≡ Some row → row.info ≡ info_of (tree_at (map row_view rows) i)
    info_right i row here =
        let (d, d_here, (known, k, m)) = row_at i row here in
        m.info ∙ ap info_told k.facts ∙ info_exact k.ty k.at.passes.within.few_cells ∙ ap info_of (sym (tree_here i row here known k))

    generic_right : (i : ℕ) (row : Row) → slice_get rows i ≡ Some row → row.generic ≡ generic_name (generic_of (kind_of (tree_at (map row_view rows) i)))
    generic_right i row here =
        let (d, d_here, (known, k, m)) = row_at i row here in
        let same : k.at.decl ≡ d = some_is k.at.decl d (sym k.at.here ∙ d_here) in
        m.generic ∙ ap (λ e. e.generic) (sym same) ∙ (arguments_of ds k.ty k.at.decl k.at.args).generic
        ∙ ap (λ t. generic_name (generic_of (kind_of t))) (sym (tree_here i row here known k))

    plain_right : (i : ℕ) (row : Row) → slice_get rows i ≡ Some row → row.plain ≡ is_plain (tree_at (map row_view rows) i)
    plain_right i row here =
        let (d, d_here, (known, k, m)) = row_at i row here in
        m.plain ∙ ap (λ f. f.plain) k.facts ∙ ap is_plain (sym (tree_here i row here known k))

  -- no declaration breaks a rule where each has its row
  pub none_break : (rows : List Row) → AreMade ds rows → (i : ℕ) (d : TypeDecl) (rule : TypeRule) (fault : TypeFault) → slice_get ds i ≡ Some d → BreaksType ds i d rule fault → ⊥
  none_break rows made i d rule fault here broken =
      let row = at_below rows i (omega (arith, slice_get_within ds i d here, made.long)) in
      let (known, k, m) = made.each i d row.0 here row.1 in
      type_breaks_none ds k.ty i d here k.at rule fault broken

module _ (p : Program) where
  -- the first refusal of a type is that of the program
  pub type_fault_first : (fault : TypeFault) → FirstTypeFault p.types fault → FirstFault p fault
  type_fault_first fault f = record { spot = in_type f.at f.rule; breaks = (f.decl, f.here, f.breaks); none_before = before }
    where
      before : (other : Spot) (earlier : TypeFault) → Breaks p other earlier → ComesBefore other (in_type f.at f.rule) → ⊥
      before (in_type i rule) earlier (d, here, broken) (inl less) = f.none_before i d less here rule earlier broken
      before (in_type i rule) earlier (d, here, broken) (inr (same, lower)) =
          let decl : d ≡ f.decl = some_is d f.decl (sym here ∙ ap (slice_get p.types) same ∙ f.here) in
          f.first.none_lower rule earlier lower (subst (λ e. BreaksType p.types f.at e rule earlier) decl (subst (λ n. BreaksType p.types n d rule earlier) same broken))
      before (in_libfunc i) earlier broken less = less
      before (in_function i rule) earlier broken less = less

  module _ (positions : List (List ℕ × ℕ)) (rows : List Row) (typed : AreTyped p.types positions rows) where
    -- what the functions ask
    pub typed_rows : HasRows p positions rows
    typed_rows = has_rows p rows (are_rows p.types rows typed.made) positions typed.first (info_right p.types rows typed.made)

    pub behind_first : (fault : TypeFault) → FirstBehindTypes p fault → FirstFault p fault
    behind_first fault = first_fault p fault (none_break p.types rows typed.made)

    module _ (function_ids : List (List ℕ × ℕ)) (functions : List Signature) (has : HasFunctions p function_ids functions) where
      pub has_types : HasTypes p (table_view positions rows function_ids functions)
      has_types = table_right p rows (are_rows p.types rows typed.made) positions typed.names function_ids functions has

      pub are_distinct : AreDistinct rows
      are_distinct = distinct_rows positions rows function_ids functions has_types.kept

      pub is_kept : (es : List (Shape × TypeId)) → ((shape : Shape) (t : TypeId) → (found_shape es shape ≡ Some t) ↔ HasTree (view_of rows) t.0 (shaped (view_of rows) shape))
          → IsKept positions rows es function_ids functions
      is_kept es right = record {
        table = has_types.kept;
        ids_numbered = typed.numbered;
        rows_full = λ i row here. record {
          generic = generic_right p.types rows typed.made i row here;
          info = info_right p.types rows typed.made i row here;
          plain = plain_right p.types rows typed.made i row here;
        };
        shapes_right = shapes_kept positions rows function_ids functions es right;
        function_ids_numbered = has.numbered;
      }

module _ (ds : List TypeDecl) where
  pub none_made : AreMadeTo ds 0 []
  none_made = record { long = refl; each = λ i d row here is. absurd (none-some row is) }

  pub one_made : (n : ℕ) (rows : List Row) (d : TypeDecl) (known : Known) (row : Row) → AreMadeTo ds n rows → slice_get ds n ≡ Some d → IsKnownAt ds n known → IsMadeOf d known (targets ds d) row
      → AreMadeTo ds (n + 1) (rows ++ row ∷ [])
  one_made n rows d known row made here k m = record { long = length_push rows row ∙ ap (λ l. l + 1) made.long; each = each }
    where
      each : (i : ℕ) (e : TypeDecl) (other : Row) → slice_get ds i ≡ Some e → slice_get (rows ++ row ∷ []) i ≡ Some other → (known : Known) × IsKnownAt ds i known × IsMadeOf e known (targets ds e) other
      each i e other there is = by (push_at rows row other i is)
        where
          by : (slice_get rows i ≡ Some other) ⊎ ((i ≡ length rows) × (row ≡ other)) → (known : Known) × IsKnownAt ds i known × IsMadeOf e known (targets ds e) other
          by (inl before) = made.each i e other there before
          by (inr (last, same)) =
              let place : n ≡ i = sym (last ∙ made.long) in
              let decl : d ≡ e = some_is d e (sym here ∙ ap (slice_get ds) place ∙ there) in
              (known, subst (λ j. IsKnownAt ds j known) place k, subst (λ r. IsMadeOf e known (targets ds e) r) same (subst (λ x. IsMadeOf x known (targets ds x) row) decl m))
