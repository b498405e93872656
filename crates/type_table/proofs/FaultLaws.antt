-- The fault that is told of a declaration is that of the rule that it breaks.
use Rattle.std.proofs.Common.{◌≡◌, inl, inr, ℕ, zero, suc, ◌<◌, List, [], ◌∷◌, get_or, Option, Some, None, is_some, if◌then◌else◌, slice_get, refl, ap, sym, subst, ◌∙◌, arith}
use Rattle.std.specs.List.{cons_option}
use Rattle.sierra_types.specs.declared.program.TypeDecl.{TypeDecl}
use Rattle.sierra_types.specs.declared.program.Arg.{Arg}
use Rattle.sierra_types.specs.declared.program.Arg.TheVariants.{OfType, User, Callee, Number}
use Rattle.type_table.specs.declared.generic.Generic.{Generic}
use Rattle.type_table.specs.declared.rules.TypeRule.{TypeRule}
use Rattle.type_table.specs.declared.rules.TypeRule.TheVariants as rules
use Rattle.type_table.specs.Naming.{IsDeclared, place_of, ids_of}
use Rattle.type_table.specs.Named.{generic_named}
use Rattle.type_table.specs.Lookups.{found}
use Rattle.type_table.specs.Refusals.{named_types, IsFirstUnknown, IsUnknownName, BreaksType}
use Rattle.type_table.specs.Resolving.{unknown_in}
use Rattle.type_table.specs.Found.{BreaksFirst}
use Rattle.type_table.specs.Made.{first_or, unknown_name, fault_told}
use Rattle.type_table.specs.Resolved.{AreKnown}
use Rattle.type_table.proofs.Plain.{none-some, some_is, cons-nil}
use Rattle.type_table.proofs.NamedLaws.{named-name, named_right}
use Rattle.type_table.proofs.Places.{declared_place, place_declared}

module _ (ds : List TypeDecl) (positions : List (List ℕ × ℕ)) (first : (id : List ℕ) → found positions id ≡ place_of (ids_of ds) id) where
  found_none : (id : List ℕ) → found positions id ≡ None → IsDeclared ds id → ⊥
  found_none id is declared = let place = declared_place ds id declared in none-some place.0 (sym is ∙ first id ∙ place.1)

  found_some : (id : List ℕ) (t : ℕ) → found positions id ≡ Some t → IsDeclared ds id
  found_some id t is = place_declared ds id t (sym (first id) ∙ is)

  later : (other : List ℕ) → IsDeclared ds other → (ids : List (List ℕ)) (id : List ℕ) → IsFirstUnknown ds ids id → IsFirstUnknown ds (other ∷ ids) id
  later other declared ids id unknown = record { at = suc unknown.at; here = unknown.here; unknown = unknown.unknown; known_before = before }
    where
      before : (j : ℕ) (name : List ℕ) → j < suc unknown.at → slice_get (other ∷ ids) j ≡ Some name → IsDeclared ds name
      before zero name less is = subst (IsDeclared ds) (some_is other name is) declared
      before (suc j) name less is = unknown.known_before j name (omega (arith, less)) is

  unknown_first : (args : List Arg) (id : List ℕ) (more : List (List ℕ)) → unknown_in positions args ≡ id ∷ more → IsFirstUnknown ds (named_types args) id
  unknown_first [] id more is = absurd (cons-nil id more (sym is))
  unknown_first (OfType other ∷ args) id more is = by (found positions other) refl is (unknown_first args id more)
    where
      by : (o : Option ℕ) → found positions other ≡ o → cons_option (if is_some o then None else Some other) (unknown_in positions args) ≡ id ∷ more
          → (unknown_in positions args ≡ id ∷ more → IsFirstUnknown ds (named_types args) id) → IsFirstUnknown ds (other ∷ named_types args) id
      by None place told rest = record {
        at = 0;
        here = ap Some (ap (λ l. get_or l 0 other) told);
        unknown = λ declared. found_none other place (subst (IsDeclared ds) (sym (ap (λ l. get_or l 0 other) told)) declared);
        known_before = λ j name less _. absurd (omega (arith, less));
      }
      by (Some t) place told rest = later other (found_some other t place) (named_types args) id (rest told)
  unknown_first (User name ∷ args) id more is = unknown_first args id more is
  unknown_first (Callee name ∷ args) id more is = unknown_first args id more is
  unknown_first (Number negative size ∷ args) id more is = unknown_first args id more is

  none_unknown : (args : List Arg) → unknown_in positions args ≡ [] → AreKnown ds (named_types args)
  none_unknown [] is k id here = absurd (none-some id here)
  none_unknown (OfType other ∷ args) is k id here = by (found positions other) refl is (none_unknown args) k here
    where
      by : (o : Option ℕ) → found positions other ≡ o → cons_option (if is_some o then None else Some other) (unknown_in positions args) ≡ []
          → (unknown_in positions args ≡ [] → AreKnown ds (named_types args)) → (k : ℕ) → slice_get (other ∷ named_types args) k ≡ Some id → IsDeclared ds id
      by None place told rest k here = absurd (cons-nil other (unknown_in positions args) told)
      by (Some t) place told rest zero here = subst (IsDeclared ds) (some_is other id here) (found_some other t place)
      by (Some t) place told rest (suc k) here = rest told k id here
  none_unknown (User name ∷ args) is k id here = none_unknown args is k id here
  none_unknown (Callee name ∷ args) is k id here = none_unknown args is k id here
  none_unknown (Number negative size ∷ args) is k id here = none_unknown args is k id here

  name_unknown : (d : TypeDecl) (name : List ℕ) → IsUnknownName ds d name → IsUnknownName ds d (unknown_name positions d)
  name_unknown d name unknown = by (generic_named d.generic) refl (unknown_in positions d.args) refl
    where
      by : (o : Option Generic) → generic_named d.generic ≡ o → (l : List (List ℕ)) → unknown_in positions d.args ≡ l → IsUnknownName ds d (if is_some o then first_or d.generic l else d.generic)
      by None generic l is = inl ((λ g. none-some g.0 (sym generic ∙ ap generic_named g.1 ∙ named-name g.0)), refl)
      by (Some g) generic (id ∷ more) is = inr ((g, named_right d.generic g generic), unknown_first d.args id more is)
      by (Some g) generic [] is = absurd (neither unknown)
        where
          neither : IsUnknownName ds d name → ⊥
          neither (inl (unnamed, same)) = unnamed (g, named_right d.generic g generic)
          neither (inr (named, there)) = there.unknown (none_unknown d.args is there.at name there.here)

  -- the rule that is broken has the fault that is told
  pub told_breaks : (i : ℕ) (d : TypeDecl) (rule : TypeRule) → BreaksFirst ds i d rule → BreaksType ds i d rule (fault_told positions d rule)
  told_breaks i d rules.NamesKnown first_broken = let broken = first_broken.breaks in (unknown_name positions d, name_unknown d broken.0 broken.1, refl)
  told_breaks i d rules.ArgumentsFit first_broken = let broken = first_broken.breaks in (broken.0, refl)
  told_breaks i d rules.InfoFits first_broken = let broken = first_broken.breaks in (broken.0, broken.1, broken.2, refl)
  told_breaks i d rules.NoCycle first_broken = let broken = first_broken.breaks in (broken.0, refl)
  told_breaks i d rules.WithinLimits first_broken = let broken = first_broken.breaks in (broken.0, broken.1, broken.2, refl)
  told_breaks i d rules.DeclaredOnce first_broken = let broken = first_broken.breaks in (broken.0, refl)
