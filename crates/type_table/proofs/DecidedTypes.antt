-- Where no declaration breaks a rule, it can't be denied that each makes a type.
use Rattle.std.proofs.Common.{◌≡◌, inl, inr, ℕ, zero, suc, ◌<◌, ◌≤◌, List, [], ◌∷◌, ◌++◌, map, length, Some, slice_get, refl, sym, subst, arith}
use Rattle.std.specs.List.{Contains}
use Rattle.std.proofs.lemmas.List.Elements.{All-contains}
use Rattle.graph_cycles.specs.Graph.{Leads, OnCycle}
use Rattle.type_trees.specs.Ty.{Ty}
use Rattle.sierra_types.specs.declared.program.TypeDecl.{TypeDecl}
use Rattle.type_table.specs.declared.fault.TypeFault.{TypeFault}
use Rattle.type_table.specs.declared.fault.TypeFault.TheVariants as faults
use Rattle.type_table.specs.declared.rules.TypeRule.{TypeRule}
use Rattle.type_table.specs.declared.rules.TypeRule.TheVariants as rules
use Rattle.type_table.specs.Naming.{place_of, ids_of}
use Rattle.type_table.specs.Generics.{Fits}
use Rattle.type_table.specs.Trees.{kind_of, user_of, IsAllowed}
use Rattle.type_table.specs.IsType.{InfoFits, IsWithin, HasArgs}
use Rattle.type_table.specs.Rows.{IsTypeAt, targets}
use Rattle.type_table.specs.Refusals.{named_types, arguments, BreaksType}
use Rattle.type_table.proofs.Plain.{none-some}
use Rattle.type_table.proofs.Places.{declared_place}
use Rattle.type_table.proofs.Acyclic.{targets_are, type_named}
use Rattle.type_table.proofs.DecidedDoubt.{Undeniable, sure, and_then}
use Rattle.type_table.proofs.DecidedLists.{at_below, contains_at, filter_map_at}
use Rattle.type_table.proofs.DecidedArguments.{AreKnown, type_made, fits_declared}
use Rattle.type_table.proofs.DecidedGraphs.{along_edges}
use Rattle.type_table.proofs.DecidedRows.{id_of, positions_below, IsRowAt, AreRows, one_more}
use Rattle.type_table.specs.View.{RowView}

module _ (ds : List TypeDecl) where
  pub closed : (i j : ℕ) → i < length ds → Leads (arguments ds) i j → j < length ds
  closed i j below leads =
      let at = at_below ds i below in
      All-contains (λ j. j < length ds) (targets ds at.0) j (positions_below ds (named_types at.0.args)) (subst (λ l. Contains l j) (targets_are ds i at.0 at.1) leads)

  -- a declaration makes a type, it can't be denied
  abbrev pub Makes : ℕ → Type 0
  Makes i = Undeniable ((ty : Ty) × IsTypeAt ds ty i)

  -- where arguments fit, and what they name makes types, they make one
  pub arguments_make : (i : ℕ) (d : TypeDecl) → slice_get ds i ≡ Some d → Fits ds d.generic d.args → ((j : ℕ) → Leads (arguments ds) i j → Makes j) → Undeniable ((ty : Ty) × HasArgs ds ty d)
  arguments_make i d here fits makes = type_made ds d fits known
    where
      known : AreKnown ds d.args
      known k id is =
          let declared = declared_place ds id (fits_declared ds d fits k id is) in
          let target = filter_map_at (place_of (ids_of ds)) (named_types d.args) k id declared.0 is declared.1 in
          let leads = subst (λ l. Contains l declared.0) (sym (targets_are ds i d here)) (contains_at (targets ds d) target.0 declared.0 target.1) in
          and_then (makes declared.0 leads) (λ found. sure (found.0, type_named ds found.0 id declared.0 declared.1 found.1))

  type_passes : (i : ℕ) (d : TypeDecl) → slice_get ds i ≡ Some d → ((rule : TypeRule) (fault : TypeFault) → BreaksType ds i d rule fault → ⊥)
      → Fits ds d.generic d.args → (ty : Ty) → HasArgs ds ty d → Makes i
  type_passes i d here whole fits ty args =
      let allow : Undeniable (IsAllowed ty) = λ out. whole rules.ArgumentsFit (faults.BadArgs d.id) (inr (ty, args, out), refl) in
      let tell : Undeniable (InfoFits d.info ty) = λ out. whole rules.InfoFits (faults.TypeInfoDiffers d.id) (ty, args, out, refl) in
      let bound : Undeniable (IsWithin d ty) = λ out. whole rules.WithinLimits (faults.SizeAbove d.id) (ty, args, out, refl) in
      and_then allow (λ allowed. and_then tell (λ info. and_then bound (λ within. sure (
        ty,
        record {
          decl = d;
          here = here;
          args = args;
          passes = record { fits = fits; allowed = allowed; info = info; within = within; fresh = λ repeated. whole rules.DeclaredOnce (faults.Duplicate d.id) (repeated, refl) };
        },
      ))))

  -- of declarations in a set that holds all that their arguments name, none of which breaks a rule
  module _ (In : ℕ → Type 0) (below : (i : ℕ) → In i → i < length ds) (holds_named : (i j : ℕ) → In i → Leads (arguments ds) i j → In j)
      (whole : (i : ℕ) (d : TypeDecl) → In i → slice_get ds i ≡ Some d → (rule : TypeRule) (fault : TypeFault) → BreaksType ds i d rule fault → ⊥) where
    acyclic : (i : ℕ) → In i → OnCycle (arguments ds) i → ⊥
    acyclic i inside cycle = let at = at_below ds i (below i inside) in whole i at.0 inside at.1 rules.NoCycle (faults.TypeCycle at.0.id) (cycle, refl)

    step : (i : ℕ) → In i → ((j : ℕ) → Leads (arguments ds) i j → Makes j) → Makes i
    step i inside makes =
        let at = at_below ds i (below i inside) in
        let fit : Undeniable (Fits ds at.0.generic at.0.args) = λ out. whole i at.0 inside at.1 rules.ArgumentsFit (faults.BadArgs at.0.id) (inl out, refl) in
        and_then fit (λ fits. and_then (arguments_make i at.0 at.1 fits makes) (λ made. type_passes i at.0 at.1 (whole i at.0 inside at.1) fits made.0 made.1))

    pub each_makes : (i : ℕ) → In i → Makes i
    each_makes i inside = along_edges (arguments ds) (length ds) In Makes below holds_named acyclic step i inside

  module _ (whole : (i : ℕ) (d : TypeDecl) → slice_get ds i ≡ Some d → (rule : TypeRule) (fault : TypeFault) → BreaksType ds i d rule fault → ⊥) where
    row_made : (i : ℕ) (ty : Ty) (at : IsTypeAt ds ty i) → (row : RowView) × IsRowAt ds i row
    row_made i ty at = (
      record { kind = kind_of ty; user = user_of ty; members = map id_of (targets ds at.decl) },
      record { ty = ty; at = at; kind = refl; user = refl; members = refl },
    )

    all_made : (n : ℕ) → n ≤ length ds → Undeniable ((rows : List RowView) × AreRows ds rows n)
    all_made zero few = sure ([], record { long = refl; each = λ i row is. absurd (none-some row is) })
    all_made (suc n) few =
        and_then (all_made n (omega (arith, few))) (λ before. and_then (each_makes (λ i. i < length ds) (λ i under. under) closed (λ i d under. whole i d) n (omega (arith, few))) (λ made.
        let row = row_made n made.0 made.1 in
        sure (before.0 ++ row.0 ∷ [], one_more ds n before.0 row.0 before.1 row.1)))

    -- all declarations have rows
    pub rows_made : Undeniable ((rows : List RowView) × AreRows ds rows (length ds))
    rows_made = all_made (length ds) (omega arith)
