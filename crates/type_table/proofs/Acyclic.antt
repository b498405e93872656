-- The types that a type's arguments name, by position; and that a type doesn't reach itself.
use Rattle.std.proofs.Common.{◌≡◌, ℕ, zero, suc, ◌<◌, ◌≤◌, List, [], ◌∷◌, Some, option_map, slice_get, slice_index_or, refl, ap, sym, subst, ◌∙◌, arith}
use Rattle.std.specs.List.{AllZip, Contains, cons_option}
use Rattle.std.proofs.lemmas.Option.{slice_get-map, slice_get-get_or, get_or_from_slice_get}
use Rattle.graph_cycles.specs.Graph.{Leads, Way, OnCycle}
use Rattle.type_trees.specs.Ty.{Ty, depth}
use Rattle.sierra_types.specs.declared.program.TypeDecl.{TypeDecl}
use Rattle.type_table.specs.Naming.{IsDeclared, place_of, ids_of}
use Rattle.type_table.specs.Trees.{user_of, parts}
use Rattle.type_table.specs.Refusals.{named_types, positions_of, arguments}
use Rattle.type_table.specs.IsType.{HasArgs, IsType}
use Rattle.type_table.specs.Rows.{IsTypeAt, targets}
use Rattle.type_table.proofs.Plain.{none-some, some_is}
use Rattle.type_table.proofs.Places.{names_place, named_at, declared_place}
use Rattle.type_table.proofs.Trees.{arguments_of, AllBelow, parts_below, depth_positive}
use Rattle.type_table.proofs.Unique.{named_types-written}

module _ (ds : List TypeDecl) where
  pub type_at : (ty : Ty) (id : List ℕ) → IsType ds ty id → (i : ℕ) × (place_of (ids_of ds) id ≡ Some i) × IsTypeAt ds ty i
  type_at ty id (i, d, names, args, passes) = (i, names_place ds id i d names, record { decl = d; here = names.here; args = args; passes = passes })

  pub type_named : (ty : Ty) (id : List ℕ) (i : ℕ) → place_of (ids_of ds) id ≡ Some i → IsTypeAt ds ty i → IsType ds ty id
  type_named ty id i place at =
      let named = named_at ds id i place in
      (i, at.decl, record { first = named.1.first; here = at.here }, at.args, at.passes)

  -- the arguments' types stand at the positions that the arguments name
  pub types_at : (tys : List Ty) (ids : List (List ℕ)) → AllZip (IsType ds) tys ids → AllZip (IsTypeAt ds) tys (positions_of ds ids)
  types_at [] [] each = tt
  types_at [] (id ∷ ids) each = absurd each
  types_at (ty ∷ tys) [] each = absurd each
  types_at (ty ∷ tys) (id ∷ ids) (first, rest) =
      let at = type_at ty id first in
      subst (λ o. AllZip (IsTypeAt ds) (ty ∷ tys) (cons_option o (positions_of ds ids))) (sym at.1) (at.2, types_at tys ids rest)

  pub types_named : (tys : List Ty) (ids : List (List ℕ)) → ((k : ℕ) (id : List ℕ) → slice_get ids k ≡ Some id → IsDeclared ds id)
      → AllZip (IsTypeAt ds) tys (positions_of ds ids) → AllZip (IsType ds) tys ids
  types_named tys [] known each = nothing tys each
    where
      nothing : (tys : List Ty) → AllZip (IsTypeAt ds) tys [] → AllZip (IsType ds) tys []
      nothing [] each = tt
      nothing (ty ∷ tys) each = absurd each
  types_named tys (id ∷ ids) known each =
      let place = declared_place ds id (known 0 id refl) in
      by tys place.0 (subst (λ o. AllZip (IsTypeAt ds) tys (cons_option o (positions_of ds ids))) place.1 each) place.1 (λ more. types_named more ids (λ k. known (suc k)))
    where
      by : (tys : List Ty) (i : ℕ) → AllZip (IsTypeAt ds) tys (i ∷ positions_of ds ids) → place_of (ids_of ds) id ≡ Some i
          → ((more : List Ty) → AllZip (IsTypeAt ds) more (positions_of ds ids) → AllZip (IsType ds) more ids) → AllZip (IsType ds) tys (id ∷ ids)
      by [] i each place rest = absurd each
      by (ty ∷ tys) i each place rest = (type_named ty id i place each.0, rest tys each.1)

  -- the parts of a type, at the positions that its declaration's arguments name
  pub parts_at : (ty : Ty) (d : TypeDecl) → HasArgs ds ty d → AllZip (IsTypeAt ds) (parts ty) (targets ds d)
  parts_at ty d args =
      let a = arguments_of ds ty d args in
      let ids = sym (named_types-written (user_of ty) a.ids) ∙ ap named_types (sym a.args) in
      subst (λ l. AllZip (IsTypeAt ds) (parts ty) (positions_of ds l)) ids (types_at (parts ty) a.ids a.each)

  part_at : (limit : ℕ) (tys : List Ty) (js : List ℕ) (k j : ℕ) → AllZip (IsTypeAt ds) tys js → AllBelow limit tys → slice_get js k ≡ Some j → (ty : Ty) × IsTypeAt ds ty j × (depth ty < limit)
  part_at limit [] [] k j each below is = absurd (none-some j is)
  part_at limit [] (i ∷ js) k j each below is = absurd each
  part_at limit (ty ∷ tys) [] k j each below is = absurd each
  part_at limit (ty ∷ tys) (i ∷ js) zero j each below is = (ty, subst (IsTypeAt ds ty) (some_is i j is) each.0, below.0)
  part_at limit (ty ∷ tys) (i ∷ js) (suc k) j each below is = part_at limit tys js k j each.1 below.1 is

  pub targets_are : (i : ℕ) (d : TypeDecl) → slice_get ds i ≡ Some d → slice_index_or (arguments ds) i [] ≡ targets ds d
  targets_are i d here = get_or_from_slice_get (arguments ds) i (targets ds d) [] (slice_get-map (targets ds) ds i ∙ ap (option_map (targets ds)) here)

  -- a declaration's arguments name types that are less deep than the type that they make
  pub leads_down : (ty : Ty) (i j : ℕ) (d : TypeDecl) → slice_get ds i ≡ Some d → HasArgs ds ty d → Leads (arguments ds) i j → (t : Ty) × IsTypeAt ds t j × (depth t < depth ty)
  leads_down ty i j d here args leads =
      let (k, below, is) = subst (λ l. Contains l j) (targets_are i d here) leads in
      part_at (depth ty) (parts ty) (targets ds d) k j (parts_at ty d args) (parts_below ty) (slice_get-get_or (targets ds d) k j below ∙ ap Some is)

  pub way_down : (m : ℕ) (ty : Ty) (i j : ℕ) → IsTypeAt ds ty i → Way (arguments ds) m i j → (t : Ty) × IsTypeAt ds t j × (depth t ≤ depth ty)
  way_down zero ty i j at same = (ty, subst (IsTypeAt ds ty) same at, omega arith)
  way_down (suc m) ty i j at (u, leads, way) =
      let (t, there, less) = leads_down ty i u at.decl at.here at.args leads in
      let (last, end, few) = way_down m t u j there way in
      (last, end, omega (arith, less, few))

  no_cycle_within : (n : ℕ) (ty : Ty) (i : ℕ) → depth ty ≤ n → IsTypeAt ds ty i → OnCycle (arguments ds) i → ⊥
  no_cycle_within zero ty i few at cycle = omega (arith, depth_positive ty, few)
  no_cycle_within (suc n) ty i few at (m, (u, leads, way)) =
      let (t, there, less) = leads_down ty i u at.decl at.here at.args leads in
      let (last, end, lower) = way_down m t u i there way in
      no_cycle_within n last i (omega (arith, few, less, lower)) end (m, (u, leads, way))

  -- a type doesn't reach itself
  pub no_cycle : (ty : Ty) (i : ℕ) → IsTypeAt ds ty i → OnCycle (arguments ds) i → ⊥
  no_cycle ty i = no_cycle_within (depth ty) ty i (omega arith)

  -- nor do arguments that make one
  pub no_cycle_through : (ty : Ty) (i : ℕ) (d : TypeDecl) → slice_get ds i ≡ Some d → HasArgs ds ty d → OnCycle (arguments ds) i → ⊥
  no_cycle_through ty i d here args (m, (u, leads, way)) =
      let (t, there, less) = leads_down ty i u d here args leads in
      let (last, end, lower) = way_down m t u i there way in
      no_cycle last i end (m, (u, leads, way))
