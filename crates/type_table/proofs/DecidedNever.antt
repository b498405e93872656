-- A table's types break no rule.
use Rattle.std.proofs.Common.{◌≡◌, inl, inr, ℕ, zero, suc, List, [], ◌∷◌, Some, option_map, slice_get, ap, sym, subst, ◌∙◌}
use Rattle.std.specs.List.{AllZip}
use Rattle.std.proofs.lemmas.Option.{slice_get-map}
use Rattle.type_trees.specs.Ty.{Ty}
use Rattle.sierra_types.specs.declared.program.Program.{Program}
use Rattle.sierra_types.specs.declared.program.TypeDecl.{TypeDecl}
use Rattle.type_table.specs.declared.fault.TypeFault.{TypeFault}
use Rattle.type_table.specs.declared.rules.TypeRule.{TypeRule}
use Rattle.type_table.specs.declared.rules.TypeRule.TheVariants as rules
use Rattle.type_table.specs.Naming.{IsDeclared, ids_of}
use Rattle.type_table.specs.Trees.{user_of, parts, IsAllowed}
use Rattle.type_table.specs.IsType.{InfoFits, IsWithin, HasArgs, IsType}
use Rattle.type_table.specs.Rows.{IsTypeAt}
use Rattle.type_table.specs.Refusals.{named_types, IsUnknownName, BreaksType, Spot, in_type, in_libfunc, in_function, Breaks, FirstFault}
use Rattle.type_table.specs.View.{TypesView, tree_of}
use Rattle.type_table.specs.Table.{HasTypes}
use Rattle.type_table.proofs.Plain.{none-some, some_is}
use Rattle.type_table.proofs.Trees.{arguments_of}
use Rattle.type_table.proofs.Unique.{named_types-written, one_type}
use Rattle.type_table.proofs.Acyclic as acyclic
use Rattle.type_table.proofs.DecidedLists.{contains_at}

module _ (ds : List TypeDecl) where
  each_declared : (tys : List Ty) (ids : List (List ℕ)) → AllZip (IsType ds) tys ids → (k : ℕ) (id : List ℕ) → slice_get ids k ≡ Some id → IsDeclared ds id
  each_declared [] [] each k id is = absurd (none-some id is)
  each_declared [] (other ∷ ids) each k id is = absurd each
  each_declared (ty ∷ tys) [] each k id is = absurd each
  each_declared (ty ∷ tys) (other ∷ ids) ((i, d, names, args, passes), rest) zero id is =
      subst (IsDeclared ds) (some_is other id is) (contains_at (ids_of ds) i other names.first.here)
  each_declared (ty ∷ tys) (other ∷ ids) (first, rest) (suc k) id is = each_declared tys ids rest k id is

  -- what a type's arguments name is declared
  pub arguments_declared : (ty : Ty) (d : TypeDecl) → HasArgs ds ty d → (k : ℕ) (id : List ℕ) → slice_get (named_types d.args) k ≡ Some id → IsDeclared ds id
  arguments_declared ty d args k id is =
      let a = arguments_of ds ty d args in
      let ids : named_types d.args ≡ a.ids = ap named_types a.args ∙ named_types-written (user_of ty) a.ids in
      each_declared (parts ty) a.ids a.each k id (sym (ap (λ l. slice_get l k) ids) ∙ is)

  known : (ty : Ty) (i : ℕ) (at : IsTypeAt ds ty i) (name : List ℕ) → IsUnknownName ds at.decl name → ⊥
  known ty i at name (inl unknown) = let fits = at.passes.fits in unknown.0 (fits.0, fits.1)
  known ty i at name (inr (generic, first)) = first.unknown (arguments_declared ty at.decl at.args first.at name first.here)

  same : (ty other : Ty) (i : ℕ) (at : IsTypeAt ds ty i) (P : Ty → Type 0) → P ty → HasArgs ds other at.decl → P other
  same ty other i at P holds args = subst P (one_type ds ty other at.decl at.args args) holds

  -- a declaration that makes a type and isn't refused breaks no rule
  pub type_passes : (ty : Ty) (i : ℕ) (at : IsTypeAt ds ty i) (rule : TypeRule) (fault : TypeFault) → BreaksType ds i at.decl rule fault → ⊥
  type_passes ty i at rules.NamesKnown fault (name, unknown, is) = known ty i at name unknown
  type_passes ty i at rules.ArgumentsFit fault (inl unfit, is) = unfit at.passes.fits
  type_passes ty i at rules.ArgumentsFit fault (inr (other, args, refused), is) = refused (same ty other i at IsAllowed at.passes.allowed args)
  type_passes ty i at rules.InfoFits fault (other, args, differs, is) = differs (same ty other i at (InfoFits at.decl.info) at.passes.info args)
  type_passes ty i at rules.NoCycle fault (cycle, is) = acyclic.no_cycle ds ty i at cycle
  type_passes ty i at rules.WithinLimits fault (other, args, above, is) = above (same ty other i at (IsWithin at.decl) at.passes.within args)
  type_passes ty i at rules.DeclaredOnce fault (repeated, is) = at.passes.fresh repeated

-- the type at each position of a program's table is what the declaration there makes
pub type_of_table : (p : Program) (view : TypesView) → HasTypes p view → (i : ℕ) (id : List ℕ) → slice_get view.ids i ≡ Some id → IsTypeAt p.types (tree_of view i) i
type_of_table p view has i id here = by (has.types i id here)
  where
    by : IsType p.types (tree_of view i) id → IsTypeAt p.types (tree_of view i) i
    by (j, e, names, args, passes) =
        let place : j ≡ i = has.kept.id_once j i id (ap (λ l. slice_get l j) has.ids ∙ names.first.here) here in
        subst (IsTypeAt p.types (tree_of view i)) place (record { decl = e; here = names.here; args = args; passes = passes })

nothing_broken : (p : Program) (view : TypesView) → HasTypes p view → (spot : Spot) (fault : TypeFault) → Breaks p spot fault → ⊥
nothing_broken p view has (in_type i rule) fault (d, here, breaks) =
    let named : slice_get (ids_of p.types) i ≡ Some d.id = slice_get-map (λ e. e.id) p.types i ∙ ap (option_map (λ e. e.id)) here in
    let at = type_of_table p view has i d.id (ap (λ l. slice_get l i) has.ids ∙ named) in
    type_passes p.types (tree_of view i) i at rule fault (subst (λ e. BreaksType p.types i e rule fault) (some_is d at.decl (sym here ∙ at.here)) breaks)
nothing_broken p view has (in_libfunc i) fault (d, here, repeated, is) = has.libfuncs_once i d here repeated
nothing_broken p view has (in_function i rule) fault (f, here, breaks) = has.functions_pass i f rule fault here breaks

-- a program that has a table has no first fault
pub never_both : (p : Program) (types : TypesView) (fault : TypeFault) → HasTypes p types → FirstFault p fault → ⊥
never_both p types fault has first = nothing_broken p types has first.spot fault first.breaks
