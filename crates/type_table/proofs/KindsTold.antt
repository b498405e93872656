-- What is told of a declaration's kind is right.
use Rattle.std.proofs.Common.{◌≡◌, ◌≢◌, ℕ, zero, suc, ◌<◌, ◌≤◌, List, [], ◌∷◌, length, Option, Some, None, slice_get, refl, ap, sym, subst, ◌∙◌, arith}
use Rattle.std.specs.List.{cons_option}
use Rattle.sierra_types.specs.declared.program.TypeDecl.{TypeDecl}
use Rattle.type_table.specs.Naming.{IsDeclared, place_of, ids_of}
use Rattle.type_table.specs.Refusals.{IsFirstUnknown, positions_of}
use Rattle.type_table.proofs.Plain.{none-some, some_is}
use Rattle.type_table.proofs.Places.{place_declared, declared_place}
use Rattle.type_table.specs.Resolved.{AreKnown}

module _ (ds : List TypeDecl) where
  few_positions : (ids : List (List ℕ)) → length (positions_of ds ids) ≤ length ids
  few_positions [] = omega arith
  few_positions (id ∷ ids) = by (place_of (ids_of ds) id) (few_positions ids)
    where
      by : (o : Option ℕ) → length (positions_of ds ids) ≤ length ids → length (cons_option o (positions_of ds ids)) ≤ suc (length ids)
      by None few = omega (arith, few)
      by (Some t) few = omega (arith, few)

  -- as many positions as ids: each id is declared
  pub all_known : (ids : List (List ℕ)) → length ids ≡ length (positions_of ds ids) → AreKnown ds ids
  all_known [] same k id is = absurd (none-some id is)
  all_known (other ∷ ids) same k id is = by (place_of (ids_of ds) other) refl same k is (λ rest. all_known ids rest)
    where
      by : (o : Option ℕ) → place_of (ids_of ds) other ≡ o → suc (length ids) ≡ length (cons_option o (positions_of ds ids)) → (k : ℕ) → slice_get (other ∷ ids) k ≡ Some id
          → (length ids ≡ length (positions_of ds ids) → AreKnown ds ids) → IsDeclared ds id
      by None place count k is rest = absurd (omega (arith, count, few_positions ids))
      by (Some t) place count zero is rest = subst (IsDeclared ds) (some_is other id is) (place_declared ds other t place)
      by (Some t) place count (suc k) is rest = rest (omega (arith, count)) k id is

  -- fewer: there is a first id that isn't
  pub some_unknown : (ids : List (List ℕ)) → length ids ≢ length (positions_of ds ids) → (id : List ℕ) × IsFirstUnknown ds ids id
  some_unknown [] differs = absurd (differs refl)
  some_unknown (other ∷ ids) differs = by (place_of (ids_of ds) other) refl differs (some_unknown ids)
    where
      by : (o : Option ℕ) → place_of (ids_of ds) other ≡ o → suc (length ids) ≢ length (cons_option o (positions_of ds ids))
          → (length ids ≢ length (positions_of ds ids) → (id : List ℕ) × IsFirstUnknown ds ids id) → (id : List ℕ) × IsFirstUnknown ds (other ∷ ids) id
      by None place count rest = (other, record { at = 0; here = refl; unknown = λ declared. none-some _ (sym place ∙ (declared_place ds other declared).1); known_before = λ j id less _. absurd (omega (arith, less)) })
      by (Some t) place count rest = let found = rest (λ same. count (ap suc same)) in (found.0, later found.0 found.1)
        where
          later : (id : List ℕ) → IsFirstUnknown ds ids id → IsFirstUnknown ds (other ∷ ids) id
          later id first = record { at = suc first.at; here = first.here; unknown = first.unknown; known_before = before }
            where
              before : (j : ℕ) (id : List ℕ) → j < suc first.at → slice_get (other ∷ ids) j ≡ Some id → IsDeclared ds id
              before zero id less is = subst (IsDeclared ds) (some_is other id is) (place_declared ds other t place)
              before (suc j) id less is = first.known_before j id (omega (arith, less)) is
