-- Arguments that fit make a type if and only if they reach neither their own declaration nor a refused one.
use Rattle.std.proofs.Common.{◌≡◌, inl, inr, ℕ, ◌<◌, List, length, Some, slice_get, sym, subst, ◌∙◌}
use Rattle.std.proofs.lemmas.Option.{slice_get_within}
use Rattle.graph_cycles.specs.Graph.{Leads, Reaches}
use Rattle.graph_cycles.proofs.Ways.{reaches_itself, reaches_then, leads_then}
use Rattle.type_trees.specs.Ty.{Ty}
use Rattle.sierra_types.specs.declared.program.TypeDecl.{TypeDecl}
use Rattle.type_table.specs.declared.fault.TypeFault.{TypeFault}
use Rattle.type_table.specs.declared.rules.TypeRule.{TypeRule}
use Rattle.type_table.specs.Generics.{Fits}
use Rattle.type_table.specs.IsType.{HasArgs}
use Rattle.type_table.specs.Refusals.{arguments, BreaksType}
use Rattle.type_table.specs.Reached.{ReachesRefused}
use Rattle.type_table.proofs.Plain.{some_is}
use Rattle.type_table.proofs.Acyclic.{leads_down, way_down, no_cycle_through}
use Rattle.type_table.proofs.DecidedNever.{type_passes}
use Rattle.type_table.proofs.DecidedTypes.{closed, arguments_make, each_makes}

module _ (ds : List TypeDecl) where
  -- a declaration whose arguments make a type reaches neither itself nor a refused one
  pub made_reaches : (ty : Ty) (i : ℕ) (d : TypeDecl) → slice_get ds i ≡ Some d → HasArgs ds ty d → ReachesRefused ds i → ⊥
  made_reaches ty i d here args (inl cycle) = no_cycle_through ds ty i d here args cycle
  made_reaches ty i d here args (inr (j, k, way, (e, rule, fault, there, breaks))) =
      let first = leads_down ds ty i way.0 d here args way.1 in
      let last = way_down ds k first.0 way.0 j first.1 way.2 in
      type_passes ds last.0 j last.1 rule fault (subst (λ c. BreaksType ds j c rule fault) (some_is e last.1.decl (sym there ∙ last.1.here)) breaks)

  -- a way of one edge or more from i
  abbrev Below : ℕ → ℕ → Type 0
  Below i j = (u : ℕ) × Leads (arguments ds) i u × Reaches (arguments ds) u j

  module _ (i : ℕ) (d : TypeDecl) (here : slice_get ds i ≡ Some d) (none : ReachesRefused ds i → ⊥) where
    abbrev In : ℕ → Type 0
    In j = (j < length ds) × Below i j

    goes_on : (j l : ℕ) → In j → Leads (arguments ds) j l → In l
    goes_on j l (below, (u, leads, way)) more =
        (closed ds j l below more, (u, leads, reaches_then (arguments ds) u j l way (leads_then (arguments ds) j l l more (reaches_itself (arguments ds) l))))

    whole : (j : ℕ) (e : TypeDecl) → In j → slice_get ds j ≡ Some e → (rule : TypeRule) (fault : TypeFault) → BreaksType ds j e rule fault → ⊥
    whole j e (below, (u, leads, (k, way))) there rule fault breaks = none (inr (j, k, (u, leads, way), (e, rule, fault, there, breaks)))

    fits_make : Fits ds d.generic d.args → ((ty : Ty) → HasArgs ds ty d → ⊥) → ⊥
    fits_make fits out =
        arguments_make ds i d here fits
        (λ j leads. each_makes ds In (λ j inside. inside.0) goes_on whole j (closed ds i j (slice_get_within ds i d here) leads, (j, leads, reaches_itself (arguments ds) j)))
        (λ made. out made.0 made.1)

  -- arguments that fit, and that reach neither their own declaration nor a refused one, make a type: it can't be that they make none
  pub reaches_makes : (i : ℕ) (d : TypeDecl) → slice_get ds i ≡ Some d → Fits ds d.generic d.args → (ReachesRefused ds i → ⊥) → ((ty : Ty) → HasArgs ds ty d → ⊥) → ⊥
  reaches_makes i d here fits none = fits_make i d here none fits
