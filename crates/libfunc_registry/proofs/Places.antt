-- The place of an id among ids: a look-up that tells each place of the id tells the first.
use Rattle.std.proofs.Common.{◌≡◌, ℕ, zero, suc, Bool, true, false, cond, List, [], ◌∷◌, Option, Some, None, slice_get, refl, sym, ap, subst, ◌∙◌}
use Rattle.std.specs.Option.{option_map}
use Rattle.std.specs.Str.{bytes_eq}
use Rattle.std.proofs.lemmas.Slice.Eq.{bytes_eq-Decides}
use Rattle.type_table.specs.declared.type_id.TypeId.{TypeId}
use Rattle.type_table.specs.View.{TypesView}
use Rattle.libfunc_registry.specs.Reading.{place_of, type_named, function_named}

pub place_of-at : (ids : List (List ℕ)) (id : List ℕ) (i : ℕ) → place_of ids id ≡ Some i → slice_get ids i ≡ Some id
unfolding place_of
place_of-at [] id i h = cc
place_of-at (x ∷ xs) id i h =
    elim (bytes_eq x id) as (λ b. bytes_eq x id ≡ b → cond b (Some 0) (option_map suc (place_of xs id)) ≡ Some i → slice_get (x ∷ xs) i ≡ Some id) [
      | true ↦ λ same e.
          let first : 0 ≡ i = cc in
          let found : x ≡ id = (bytes_eq-Decides x id).0 same in
          subst (λ j. slice_get (x ∷ xs) j ≡ Some id) first (ap Some found)
      | false ↦ λ _ e.
          elim (place_of xs id) as (λ o. place_of xs id ≡ o → option_map suc o ≡ Some i → slice_get (x ∷ xs) i ≡ Some id) [
            | None ↦ λ _ f. cc
            | Some j ↦ λ there f.
                let next : suc j ≡ i = cc in
                subst (λ k. slice_get (x ∷ xs) k ≡ Some id) next (place_of-at xs id j there)
          ] refl e
    ] refl h

pub place_of-none : (ids : List (List ℕ)) (id : List ℕ) (i : ℕ) → place_of ids id ≡ None → slice_get ids i ≡ Some id → ⊥
unfolding place_of
place_of-none [] id i h at = cc
place_of-none (x ∷ xs) id i h at =
    elim (bytes_eq x id) as (λ b. bytes_eq x id ≡ b → cond b (Some 0) (option_map suc (place_of xs id)) ≡ None → ⊥) [
      | true ↦ λ _ e. cc
      | false ↦ λ differs e.
          elim (place_of xs id) as (λ o. place_of xs id ≡ o → option_map suc o ≡ None → ⊥) [
            | Some j ↦ λ _ f. cc
            | None ↦ λ nowhere _. later i (λ k. place_of-none xs id k nowhere) differs at
          ] refl e
    ] refl h
  where
    later : (k : ℕ) → ((j : ℕ) → slice_get xs j ≡ Some id → ⊥) → bytes_eq x id ≡ false → slice_get (x ∷ xs) k ≡ Some id → ⊥
    later zero nowhere differs here =
        let same : x ≡ id = cc in
        let tested : bytes_eq x id ≡ true = (bytes_eq-Decides x id).1 same in
        cc
    later (suc k) nowhere differs there = nowhere k there

-- a look-up that tells each place of an id
pub told_place : (ids : List (List ℕ)) (id : List ℕ) (r : Option ℕ)
    → ((i : ℕ) → (r ≡ Some i → slice_get ids i ≡ Some id) × (slice_get ids i ≡ Some id → r ≡ Some i)) → r ≡ place_of ids id
told_place ids id r tells = elim (place_of ids id) as (λ o. place_of ids id ≡ o → r ≡ o) [
  | Some i ↦ λ at. (tells i).1 (place_of-at ids id i at)
  | None ↦ λ nowhere. elim r as (λ o. r ≡ o → r ≡ None) [
    | None ↦ λ is. is
    | Some i ↦ λ is. absurd (place_of-none ids id i nowhere ((tells i).0 is))
  ] refl
] refl

pub told_function : (types : TypesView) (id : List ℕ) (r : Option ℕ)
    → ((i : ℕ) → (r ≡ Some i → slice_get types.function_ids i ≡ Some id) × (slice_get types.function_ids i ≡ Some id → r ≡ Some i))
    → r ≡ function_named types id
unfolding function_named
told_function types id r tells = told_place types.function_ids id r tells

pub told_type : (types : TypesView) (id : List ℕ) (r : Option TypeId)
    → ((t : TypeId) → (r ≡ Some t → slice_get types.ids t.0 ≡ Some id) × (slice_get types.ids t.0 ≡ Some id → r ≡ Some t))
    → r ≡ type_named types id
unfolding type_named
told_type types id r tells = elim (place_of types.ids id) as (λ o. place_of types.ids id ≡ o → r ≡ option_map (λ i. record { 0 = i }) o) [
  | Some i ↦ λ at. (tells (record { 0 = i })).1 (place_of-at types.ids id i at)
  | None ↦ λ nowhere. elim r as (λ o. r ≡ o → r ≡ None) [
    | None ↦ λ is. is
    | Some t ↦ λ is. absurd (place_of-none types.ids id t.0 nowhere ((tells t).0 is))
  ] refl
] refl
