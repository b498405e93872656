-- Rows that are those of the declared types, and the trees that are read off them.
use Rattle.std.proofs.Common.{◌≡◌, ◌⊎◌, inl, inr, ℕ, zero, suc, ◌<◌, ◌≤◌, List, [], ◌∷◌, ◌++◌, map, length, Option, Some, unwrap_or, slice_get, refl, ap, sym, subst, ◌∙◌, arith}
use Rattle.std.specs.List.{All, AllZip}
use Rattle.std.specs.Option.{option_map_or}
use Rattle.std.proofs.lemmas.List.{length-map, length_push}
use Rattle.std.proofs.lemmas.List.Elements.{All-map}
use Rattle.std.proofs.lemmas.Bool.{cases_order}
use Rattle.std.proofs.lemmas.Option.{slice_get_within}
use Rattle.type_trees.specs.Ty.{Ty, depth}
use Rattle.sierra_types.specs.declared.program.TypeDecl.{TypeDecl}
use Rattle.type_table.specs.declared.type_id.TypeId.{TypeId}
use Rattle.type_table.specs.declared.kind.TypeKind.{TypeKind}
use Rattle.type_table.specs.Naming.{place_of, ids_of}
use Rattle.type_table.specs.Trees.{kind_of, user_of, parts}
use Rattle.type_table.specs.IsType.{IsType, most_depth}
use Rattle.type_table.specs.Rows.{IsTypeAt, targets}
use Rattle.type_table.specs.Refusals.{positions_of}
use Rattle.type_table.specs.View.{RowView, made_of, no_type, tree_within, tree_at}
use Rattle.type_table.proofs.Plain.{some_is}
use Rattle.type_table.proofs.Places.{place-first, place_some}
use Rattle.type_table.proofs.Trees.{made_of-parts, AllBelow, parts_below, depth_positive}
use Rattle.type_table.proofs.Unique.{one_type_at}
use Rattle.type_table.proofs.Acyclic.{type_named, parts_at}
use Rattle.type_table.proofs.DecidedLists.{at_below, map_at, push_at, filter_map_all}

abbrev pub id_of : ℕ → TypeId
id_of j = record { 0 = j }

module _ (ds : List TypeDecl) where
  -- positions of ids are positions of declarations
  pub positions_below : (ids : List (List ℕ)) → All (λ j. j < length ds) (positions_of ds ids)
  positions_below ids = filter_map_all (λ j. j < length ds) (place_of (ids_of ds)) (λ id j is. below id j is) ids
    where
      below : (id : List ℕ) (j : ℕ) → place_of (ids_of ds) id ≡ Some j → j < length ds
      below id j is =
          let long : length (ids_of ds) ≡ length ds = length-map ds (λ d. d.id) in
          omega (arith, long, slice_get_within (ids_of ds) j id (place-first (ids_of ds) id j is).here)

  -- the row of the declaration at position i, which makes a type
  pub record IsRowAt (i : ℕ) (row : RowView) : Type 0 where
    pub ty : Ty
    pub at : IsTypeAt ds ty i
    pub kind : row.kind ≡ kind_of ty
    pub user : row.user ≡ user_of ty
    pub members : row.members ≡ map id_of (targets ds at.decl)

  -- the rows of the first n declarations
  pub record AreRows (rows : List RowView) (n : ℕ) : Type 0 where
    pub long : length rows ≡ n
    pub each : (i : ℕ) (row : RowView) → slice_get rows i ≡ Some row → IsRowAt i row

  pub one_more : (n : ℕ) (rows : List RowView) (row : RowView) → AreRows rows n → IsRowAt n row → AreRows (rows ++ row ∷ []) (suc n)
  one_more n rows row are at = record { long = omega (arith, length_push rows row, are.long); each = each }
    where
      each : (i : ℕ) (other : RowView) → slice_get (rows ++ row ∷ []) i ≡ Some other → IsRowAt i other
      each i other is = by (push_at rows row other i is)
        where
          by : (slice_get rows i ≡ Some other) ⊎ ((i ≡ length rows) × (row ≡ other)) → IsRowAt i other
          by (inl before) = are.each i other before
          by (inr (last, same)) = subst (IsRowAt i) same (subst (λ k. IsRowAt k row) (sym (last ∙ are.long)) at)

  module _ (rows : List RowView) (are : AreRows rows (length ds)) where
    row_below : (i : ℕ) → i < length ds → (row : RowView) × (slice_get rows i ≡ Some row)
    row_below i below = at_below rows i (subst (λ n. i < n) (sym are.long) below)

    abbrev ReadsWithin : ℕ → Type 0
    ReadsWithin m = (i : ℕ) (row : RowView) (here : slice_get rows i ≡ Some row) → depth (are.each i row here).ty ≤ m → tree_within m rows i ≡ (are.each i row here).ty

    parts_within : (m : ℕ) → ReadsWithin m → (limit : ℕ) → limit ≤ suc m → (ps : List Ty) (js : List ℕ) → AllZip (IsTypeAt ds) ps js → AllBelow limit ps
        → map (λ t. tree_within m rows t.0) (map id_of js) ≡ ps
    parts_within m reads limit few [] [] each below = refl
    parts_within m reads limit few [] (j ∷ js) each below = absurd each
    parts_within m reads limit few (ty ∷ ps) [] each below = absurd each
    parts_within m reads limit few (ty ∷ ps) (j ∷ js) each below =
        let at : IsTypeAt ds ty j = each.0 in
        let other = row_below j (slice_get_within ds j at.decl at.here) in
        let row = are.each j other.0 other.1 in
        let same : row.ty ≡ ty = one_type_at ds row.ty ty j row.at at in
        let first : tree_within m rows j ≡ ty = reads j other.0 other.1 (omega (arith, ap depth same, below.0, few)) ∙ same in
        ap (λ t. t ∷ map (λ t. tree_within m rows t.0) (map id_of js)) first ∙ ap (λ l. ty ∷ l) (parts_within m reads limit few ps js each.1 below.1)

    abbrev made_within : ℕ → TypeKind → Option (List ℕ) → List TypeId → Ty
    made_within m kind user members = made_of kind (unwrap_or user []) (map (λ t. tree_within m rows t.0) members)

    read_step : (m : ℕ) → ReadsWithin m → ReadsWithin (suc m)
    read_step m reads i row here few =
        let is = are.each i row here in
        ap (λ o. option_map_or (λ r. made_within m r.kind r.user r.members) o no_type) here
        ∙ ap (λ k. made_within m k row.user row.members) is.kind
        ∙ ap (λ u. made_within m (kind_of is.ty) u row.members) is.user
        ∙ ap (λ l. made_within m (kind_of is.ty) (user_of is.ty) l) is.members
        ∙ ap (made_of (kind_of is.ty) (unwrap_or (user_of is.ty) [])) (parts_within m reads (depth is.ty) few (parts is.ty) (targets ds is.at.decl) (parts_at ds is.ty is.at.decl is.at.args) (parts_below is.ty))
        ∙ made_of-parts is.ty

    reads_within : (m : ℕ) → ReadsWithin m
    reads_within zero i row here few = absurd (omega (arith, few, depth_positive (are.each i row here).ty))
    reads_within (suc m) i row here few = read_step m (reads_within m) i row here few

    -- the tree that is read off the rows is the type
    pub tree_is : (i : ℕ) (row : RowView) (here : slice_get rows i ≡ Some row) → tree_at rows i ≡ (are.each i row here).ty
    unfolding tree_at
    tree_is i row here = reads_within most_depth i row here (are.each i row here).at.passes.within.shallow

    pub trees_are : (ps : List Ty) (js : List ℕ) → AllZip (IsTypeAt ds) ps js → map (λ t. tree_at rows t.0) (map id_of js) ≡ ps
    trees_are [] [] each = refl
    trees_are [] (j ∷ js) each = absurd each
    trees_are (ty ∷ ps) [] each = absurd each
    trees_are (ty ∷ ps) (j ∷ js) each =
        let at : IsTypeAt ds ty j = each.0 in
        let other = row_below j (slice_get_within ds j at.decl at.here) in
        let row = are.each j other.0 other.1 in
        let same : row.ty ≡ ty = one_type_at ds row.ty ty j row.at at in
        ap (λ t. t ∷ map (λ t. tree_at rows t.0) (map id_of js)) (tree_is j other.0 other.1 ∙ same) ∙ ap (λ l. ty ∷ l) (trees_are ps js each.1)

    -- the declaration at each position makes the tree there
    pub type_at : (i : ℕ) → i < length ds → IsTypeAt ds (tree_at rows i) i
    type_at i below =
        let row = row_below i below in
        subst (λ t. IsTypeAt ds t i) (sym (tree_is i row.0 row.1)) (are.each i row.0 row.1).at

    pub all_below : (ids : List (List ℕ)) → All (λ t. t.0 < length rows) (map id_of (positions_of ds ids))
    all_below ids = All-map (λ t. t.0 < length rows) id_of (positions_of ds ids) (subst (λ n. All (λ j. j < n) (positions_of ds ids)) (sym are.long) (positions_below ids))

    not_before : (i j : ℕ) (id : List ℕ) → i < j → slice_get (ids_of ds) i ≡ Some id → slice_get (ids_of ds) j ≡ Some id → ⊥
    not_before i j id less first second =
        let d = map_at (λ d. d.id) ds i id first in
        let e = map_at (λ d. d.id) ds j id second in
        let at = type_at j (slice_get_within ds j e.0 e.1) in
        let same : d.0.id ≡ at.decl.id = d.2 ∙ sym e.2 ∙ ap (λ x. x.id) (some_is e.0 at.decl (sym e.1 ∙ at.here)) in
        at.passes.fresh (i, d.0, less, d.1, inl same)

    pub id_once : (i j : ℕ) (id : List ℕ) → slice_get (ids_of ds) i ≡ Some id → slice_get (ids_of ds) j ≡ Some id → i ≡ j
    id_once i j id first second = by (cases_order i j)
      where
        by : (i ≡ j) ⊎ ((i < j) ⊎ (j < i)) → i ≡ j
        by (inl same) = same
        by (inr (inl less)) = absurd (not_before i j id less first second)
        by (inr (inr less)) = absurd (not_before j i id less second first)

    pub type_named_at : (i : ℕ) (id : List ℕ) → slice_get (ids_of ds) i ≡ Some id → IsType ds (tree_at rows i) id
    type_named_at i id here =
        let place = place_some (ids_of ds) id i here in
        let same : place.0 ≡ i = id_once place.0 i id (place-first (ids_of ds) id place.0 place.1).here here in
        let d = map_at (λ d. d.id) ds i id here in
        type_named ds (tree_at rows i) id i (place.1 ∙ ap Some same) (type_at i (slice_get_within ds i d.0 d.1))
