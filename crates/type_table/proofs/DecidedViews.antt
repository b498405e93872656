-- When a table is that of a program: its rows are those of the declared types, and its functions are as declared.
use Rattle.std.proofs.Common.{◌≡◌, ◌⊎◌, inl, inr, ℕ, suc, ◌<◌, ◌≤◌, List, [], ◌∷◌, ◌++◌, map, length, Some, option_map, slice_get, refl, ap, sym, subst, ◌∙◌, arith}
use Rattle.std.specs.List.{All, cons_option}
use Rattle.std.proofs.lemmas.List.{length-map}
use Rattle.std.proofs.lemmas.List.Elements.{All-nil, All-cons}
use Rattle.std.proofs.lemmas.Bool.{cases_order}
use Rattle.std.proofs.lemmas.Option.{slice_get-map, slice_get_within}
use Rattle.type_trees.specs.Ty.{Ty, size, depth}
use Rattle.sierra_types.specs.declared.program.Program.{Program}
use Rattle.sierra_types.specs.declared.program.TypeDecl.{TypeDecl}
use Rattle.sierra_types.specs.declared.program.LibfuncDecl.{LibfuncDecl}
use Rattle.sierra_types.specs.declared.program.Function.{Function}
use Rattle.type_table.specs.declared.type_id.TypeId.{TypeId}
use Rattle.type_table.specs.declared.fault.TypeFault.{TypeFault}
use Rattle.type_table.specs.declared.fault.TypeFault.TheVariants as faults
use Rattle.type_table.specs.Naming.{IsDeclared, place_of, ids_of}
use Rattle.type_table.specs.Trees.{kind_of, user_of, parts, IsAllowed}
use Rattle.type_table.specs.IsType.{IsType, most_cells, most_arguments, most_depth}
use Rattle.type_table.specs.Rows.{IsTypeAt, targets}
use Rattle.type_table.specs.Refusals.{named_type, named_types, positions_of, parameter_types, IsRepeatedId, FunctionRule, types_known, named_once, BreaksFunction, Spot, in_libfunc, in_function, Breaks}
use Rattle.type_table.specs.Parts.{HasOrdinaryParts}
use Rattle.type_table.specs.View.{TypesView, RowView, FunctionView, tree_of, HasTree, IsRow, IsFunction, IsTable}
use Rattle.type_table.specs.Table.{ArePositions, HasSignature, HasTypes}
use Rattle.type_table.proofs.Plain.{some_is, cons-nil}
use Rattle.type_table.proofs.Places.{place-first, declared_place}
use Rattle.type_table.proofs.Unique.{one_position}
use Rattle.type_table.proofs.Acyclic.{parts_at}
use Rattle.type_table.proofs.DecidedLists.{at_below, map_at, length_filter_map, left_at, right_at, heads, behind}
use Rattle.type_table.proofs.DecidedClean.{all_known}
use Rattle.type_table.proofs.DecidedParts.{parts_ordinary}
use Rattle.type_table.proofs.DecidedRows.{id_of, AreRows, tree_is, trees_are, type_at, all_below, id_once, type_named_at}

-- the functions of a table are as declared, and neither they nor ids of libfuncs break a rule
pub record HasFunctionsOf (p : Program) (view : TypesView) : Type 0 where
  pub function_ids : view.function_ids ≡ map (λ f. f.id) p.functions
  pub as_many : length view.functions ≡ length p.functions
  pub signatures : (i : ℕ) (declared : Function) (f : FunctionView) → slice_get p.functions i ≡ Some declared → slice_get view.functions i ≡ Some f → HasSignature view declared f
  pub libfuncs_once : (i : ℕ) (d : LibfuncDecl) → slice_get p.libfuncs i ≡ Some d → IsRepeatedId (map (λ e. e.id) p.libfuncs) i d.id → ⊥
  pub functions_pass : (i : ℕ) (f : Function) (rule : FunctionRule) (fault : TypeFault) → slice_get p.functions i ≡ Some f → BreaksFunction p i f rule fault → ⊥

-- positions of ids are below the number of ids
positions_inside : (ids named : List (List ℕ)) (ts : List TypeId) → map (λ id. Some id) named ≡ map (λ t. slice_get ids t.0) ts → All (λ t. t.0 < length ids) ts
positions_inside ids named [] are = All-nil (λ t. t.0 < length ids)
positions_inside ids [] (t ∷ ts) are = absurd (cons-nil (slice_get ids t.0) (map (λ t. slice_get ids t.0) ts) (sym are))
positions_inside ids (id ∷ named) (t ∷ ts) are =
    let first : Some id ≡ slice_get ids t.0 = heads (Some id) (slice_get ids t.0) (map (λ id. Some id) named) (map (λ t. slice_get ids t.0) ts) are in
    All-cons (λ t. t.0 < length ids) t ts (slice_get_within ids t.0 id (sym first)) (positions_inside ids named ts (ap behind are))

module _ (p : Program) (view : TypesView) (ids_are : view.ids ≡ ids_of p.types) (are : AreRows p.types view.rows (length p.types)) where
  row_right : (i : ℕ) (row : RowView) → slice_get view.rows i ≡ Some row → IsRow view i row
  row_right i row here =
      let is = are.each i row here in
      let decl = is.at.decl in
      let passes = is.at.passes in
      let tree : is.ty ≡ tree_of view i = sym (tree_is p.types view.rows are i row here) in
      record {
        kind = is.kind ∙ ap kind_of tree;
        user = is.user ∙ ap user_of tree;
        members = ap (map (λ t. tree_of view t.0)) is.members ∙ trees_are p.types view.rows are (parts is.ty) (targets p.types decl) (parts_at p.types is.ty decl is.at.args) ∙ ap parts tree;
        below = subst (All (λ t. t.0 < length view.rows)) (sym is.members) (all_below p.types view.rows are (named_types decl.args));
        few_members = subst (λ l. length l ≤ most_arguments) (sym is.members) (few decl passes.within.few_arguments);
        ordinary = subst HasOrdinaryParts tree (parts_ordinary p.types is.ty decl is.at.args passes.fits);
        allowed = subst IsAllowed tree passes.allowed;
        few_cells = subst (λ t. size t ≤ most_cells) tree passes.within.few_cells;
        shallow = subst (λ t. depth t ≤ most_depth) tree passes.within.shallow;
      }
    where
      few : (d : TypeDecl) → length d.args ≤ most_arguments → length (map id_of (targets p.types d)) ≤ most_arguments
      few d args = omega (arith, args, length-map (targets p.types d) id_of, length_filter_map (place_of (ids_of p.types)) (named_types d.args), length_filter_map named_type d.args)

  tree_once : (i j : ℕ) (ty : Ty) → HasTree view i ty → HasTree view j ty → i ≡ j
  tree_once i j ty x y = one_position p.types ty i j (at i x) (at j y)
    where
      at : (k : ℕ) → HasTree view k ty → IsTypeAt p.types ty k
      at k tree = subst (λ t. IsTypeAt p.types t k) tree.tree (type_at p.types view.rows are k (subst (λ n. k < n) are.long tree.below))

  id_once_here : (i j : ℕ) (id : List ℕ) → slice_get view.ids i ≡ Some id → slice_get view.ids j ≡ Some id → i ≡ j
  id_once_here = subst (λ ids. (i j : ℕ) (id : List ℕ) → slice_get ids i ≡ Some id → slice_get ids j ≡ Some id → i ≡ j) (sym ids_are) (id_once p.types view.rows are)

  types_here : (i : ℕ) (id : List ℕ) → slice_get view.ids i ≡ Some id → IsType p.types (tree_of view i) id
  types_here = subst (λ ids. (i : ℕ) (id : List ℕ) → slice_get ids i ≡ Some id → IsType p.types (tree_of view i) id) (sym ids_are) (type_named_at p.types view.rows are)

  each_named : length view.ids ≡ length view.rows
  each_named = ap length ids_are ∙ length-map p.types (λ d. d.id) ∙ sym are.long

  module _ (has : HasFunctionsOf p view) where
    function_not_before : (i j : ℕ) (id : List ℕ) → i < j → slice_get view.function_ids i ≡ Some id → slice_get view.function_ids j ≡ Some id → ⊥
    function_not_before i j id less first second =
        let f = map_at (λ f. f.id) p.functions j id (ap (λ l. slice_get l j) (sym has.function_ids) ∙ second) in
        let repeated : IsRepeatedId (map (λ g. g.id) p.functions) j f.0.id = (i, less, ap (λ l. slice_get l i) (sym has.function_ids) ∙ first ∙ ap Some (sym f.2)) in
        has.functions_pass j f.0 named_once (faults.Duplicate f.0.id) f.1 (repeated, refl)

    function_id_once : (i j : ℕ) (id : List ℕ) → slice_get view.function_ids i ≡ Some id → slice_get view.function_ids j ≡ Some id → i ≡ j
    function_id_once i j id first second = by (cases_order i j)
      where
        by : (i ≡ j) ⊎ ((i < j) ⊎ (j < i)) → i ≡ j
        by (inl same) = same
        by (inr (inl less)) = absurd (function_not_before i j id less first second)
        by (inr (inr less)) = absurd (function_not_before j i id less second first)

    function_right : (i : ℕ) (f : FunctionView) → slice_get view.functions i ≡ Some f → IsFunction view f
    function_right i f here =
        let declared = at_below p.functions i (subst (λ n. i < n) has.as_many (slice_get_within view.functions i f here)) in
        let signature = has.signatures i declared.0 f declared.1 here in
        record { params = inside (parameter_types declared.0) f.params signature.params; results = inside declared.0.results f.results signature.results }
      where
        inside : (named : List (List ℕ)) (ts : List TypeId) → ArePositions view named ts → All (λ t. t.0 < length view.rows) ts
        inside named ts are = subst (λ n. All (λ t. t.0 < n) ts) each_named (positions_inside view.ids named ts are)

    kept : IsTable view
    kept = record {
      each_named = each_named;
      id_once = id_once_here;
      tree_once = tree_once;
      rows_right = row_right;
      each_function_named = ap length has.function_ids ∙ length-map p.functions (λ f. f.id) ∙ sym has.as_many;
      function_id_once = function_id_once;
      functions_right = function_right;
    }

    -- the table is that of the program
    pub has_types : HasTypes p view
    has_types = record {
      kept = kept;
      ids = ids_are;
      types = types_here;
      function_ids = has.function_ids;
      functions = has.signatures;
      libfuncs_once = has.libfuncs_once;
      functions_pass = has.functions_pass;
    }

-- the ids of declared types are those at their positions
positions_right : (ds : List TypeDecl) (ids : List (List ℕ)) → ((k : ℕ) (id : List ℕ) → slice_get ids k ≡ Some id → IsDeclared ds id)
    → map (λ id. Some id) ids ≡ map (λ t. slice_get (ids_of ds) t.0) (map id_of (positions_of ds ids))
positions_right ds [] known = refl
positions_right ds (id ∷ ids) known =
    let place = declared_place ds id (known 0 id refl) in
    let first : Some id ≡ slice_get (ids_of ds) place.0 = sym (place-first (ids_of ds) id place.0 place.1).here in
    let rest = positions_right ds ids (λ k. known (suc k)) in
    subst (λ o. map (λ x. Some x) (id ∷ ids) ≡ map (λ t. slice_get (ids_of ds) t.0) (map id_of (cons_option o (positions_of ds ids)))) (sym place.1)
    (ap (λ x. x ∷ map (λ x. Some x) ids) first ∙ ap (λ l. slice_get (ids_of ds) place.0 ∷ l) rest)

module _ (p : Program) (whole : (spot : Spot) (fault : TypeFault) → Breaks p spot fault → ⊥) where
  abbrev function_of : Function → FunctionView
  function_of f = record { params = map id_of (positions_of p.types (parameter_types f)); results = map id_of (positions_of p.types f.results) }

  -- the table with these rows
  abbrev pub view_with : List RowView → TypesView
  view_with rows = record { ids = ids_of p.types; rows = rows; function_ids = map (λ f. f.id) p.functions; functions = map function_of p.functions }

  types_known_at : (i : ℕ) (f : Function) → slice_get p.functions i ≡ Some f → (k : ℕ) (id : List ℕ) → slice_get (parameter_types f ++ f.results) k ≡ Some id → IsDeclared p.types id
  types_known_at i f here = all_known p.types (parameter_types f ++ f.results) (λ name first. whole (in_function i types_known) (faults.UnknownType name) (f, here, (name, first, refl)))

  signature_right : (rows : List RowView) (i : ℕ) (declared : Function) (f : FunctionView) → slice_get p.functions i ≡ Some declared → slice_get (map function_of p.functions) i ≡ Some f
      → HasSignature (view_with rows) declared f
  signature_right rows i declared f here is =
      let same : function_of declared ≡ f = some_is (function_of declared) f (sym (slice_get-map function_of p.functions i ∙ ap (option_map function_of) here) ∙ is) in
      subst (HasSignature (view_with rows) declared) same (record {
        params = positions_right p.types (parameter_types declared) (λ k id at. types_known_at i declared here k id (left_at (parameter_types declared) declared.results k id at));
        results = positions_right p.types declared.results (λ k id at. let moved = right_at (parameter_types declared) declared.results k id at in types_known_at i declared here moved.0 id moved.1);
      })

  functions_made : (rows : List RowView) → HasFunctionsOf p (view_with rows)
  functions_made rows = record {
    function_ids = refl;
    as_many = length-map p.functions function_of;
    signatures = signature_right rows;
    libfuncs_once = λ i d here repeated. whole (in_libfunc i) (faults.Duplicate d.id) (d, here, repeated, refl);
    functions_pass = λ i f rule fault here breaks. whole (in_function i rule) fault (f, here, breaks);
  }

  -- a program in which nothing breaks a rule has the table with the rows of its types
  pub table_made : (rows : List RowView) → AreRows p.types rows (length p.types) → HasTypes p (view_with rows)
  table_made rows are = has_types p (view_with rows) refl are (functions_made rows)
