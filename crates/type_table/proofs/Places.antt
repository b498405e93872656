-- Where an id is first, and what it names.
use Rattle.std.proofs.Common.{◌≡◌, ◌≢◌, ◌⊎◌, inl, inr, ℕ, zero, suc, ◌<◌, Bool, true, false, true≢false, cond, List, [], ◌∷◌, Option, Some, None, option_map, slice_get, refl, ap, sym, subst, ◌∙◌, arith}
use Rattle.std.specs.Prelude.{bytes_eq}
use Rattle.std.proofs.lemmas.Slice.Eq.{bytes_eq-Decides}
use Rattle.std.proofs.lemmas.Bool.{cases_order}
use Rattle.std.proofs.lemmas.Option.{slice_get-map, slice_get-get_or, slice_get_within, get_or_from_slice_get}
use Rattle.sierra_types.specs.declared.program.TypeDecl.{TypeDecl}
use Rattle.type_table.specs.Naming.{IsFirst, Names, IsDeclared, place_of, ids_of}
use Rattle.type_table.proofs.Plain.{none-some, some_is}

-- where bytes are compared: equal, or not
pub bytes_cases : (a b : List ℕ) → ((a ≡ b) × (bytes_eq a b ≡ true)) ⊎ ((a ≢ b) × (bytes_eq a b ≡ false))
bytes_cases a b = by (bytes_eq a b) refl
  where
    by : (r : Bool) → bytes_eq a b ≡ r → ((a ≡ b) × (bytes_eq a b ≡ true)) ⊎ ((a ≢ b) × (bytes_eq a b ≡ false))
    by true is = inl ((bytes_eq-Decides a b).0 is, is)
    by false is = inr ((λ same. true≢false (sym ((bytes_eq-Decides a b).1 same) ∙ is)), is)

pub place_here : (id other : List ℕ) (ids : List (List ℕ)) → bytes_eq id other ≡ true → place_of (other ∷ ids) id ≡ Some 0
place_here id other ids same = ap (λ b. cond b (Some 0) (option_map suc (place_of ids id))) same

pub place_later : (id other : List ℕ) (ids : List (List ℕ)) → bytes_eq id other ≡ false → place_of (other ∷ ids) id ≡ option_map suc (place_of ids id)
place_later id other ids differs = ap (λ b. cond b (Some 0) (option_map suc (place_of ids id))) differs

suc_of : (o : Option ℕ) (i : ℕ) → option_map suc o ≡ Some i → (k : ℕ) × (o ≡ Some k) × (i ≡ suc k)
suc_of None i is = absurd (none-some i is)
suc_of (Some k) i is = (k, refl, sym (some_is (suc k) i is))

first_next : (other id : List ℕ) (ids : List (List ℕ)) (k : ℕ) → id ≢ other → IsFirst ids id k → IsFirst (other ∷ ids) id (suc k)
first_next other id ids k differs first = record { here = first.here; none_before = before }
  where
    before : (j : ℕ) → j < suc k → slice_get (other ∷ ids) j ≡ Some id → ⊥
    before zero less is = differs (sym (some_is other id is))
    before (suc j) less is = first.none_before j (omega arith) is

pub place-first : (ids : List (List ℕ)) (id : List ℕ) (i : ℕ) → place_of ids id ≡ Some i → IsFirst ids id i
place-first [] id i is = absurd (none-some i is)
place-first (other ∷ ids) id i is = by (bytes_cases id other) (place-first ids id)
  where
    by : ((id ≡ other) × (bytes_eq id other ≡ true)) ⊎ ((id ≢ other) × (bytes_eq id other ≡ false)) → ((k : ℕ) → place_of ids id ≡ Some k → IsFirst ids id k) → IsFirst (other ∷ ids) id i
    by (inl (same, told)) rest =
        let at : 0 ≡ i = some_is 0 i (sym (place_here id other ids told) ∙ is) in
        subst (IsFirst (other ∷ ids) id) at (record { here = ap Some (sym same); none_before = λ j less _. absurd (omega (arith, less)) })
    by (inr (differs, told)) rest =
        let later = suc_of (place_of ids id) i (sym (place_later id other ids told) ∙ is) in
        subst (IsFirst (other ∷ ids) id) (sym later.2) (first_next other id ids later.0 differs (rest later.0 later.1))

-- an id is first at one place alone
pub first_once : (ids : List (List ℕ)) (id : List ℕ) (i j : ℕ) → IsFirst ids id i → IsFirst ids id j → i ≡ j
first_once ids id i j a b = by (cases_order i j)
  where
    by : (i ≡ j) ⊎ ((i < j) ⊎ (j < i)) → i ≡ j
    by (inl same) = same
    by (inr (inl less)) = absurd (b.none_before i less a.here)
    by (inr (inr less)) = absurd (a.none_before j less b.here)

-- an id that is somewhere has a first place
pub place_some : (ids : List (List ℕ)) (id : List ℕ) (j : ℕ) → slice_get ids j ≡ Some id → (i : ℕ) × (place_of ids id ≡ Some i)
place_some [] id j is = absurd (none-some id is)
place_some (other ∷ ids) id j is = by (bytes_cases id other) j is (place_some ids id)
  where
    by : ((id ≡ other) × (bytes_eq id other ≡ true)) ⊎ ((id ≢ other) × (bytes_eq id other ≡ false)) → (j : ℕ) → slice_get (other ∷ ids) j ≡ Some id
        → ((k : ℕ) → slice_get ids k ≡ Some id → (i : ℕ) × (place_of ids id ≡ Some i)) → (i : ℕ) × (place_of (other ∷ ids) id ≡ Some i)
    by (inl (same, told)) j is rest = (0, place_here id other ids told)
    by (inr (differs, told)) zero is rest = absurd (differs (sym (some_is other id is)))
    by (inr (differs, told)) (suc k) is rest =
        let later = rest k is in
        (suc later.0, place_later id other ids told ∙ ap (option_map suc) later.1)

pub first-place : (ids : List (List ℕ)) (id : List ℕ) (i : ℕ) → IsFirst ids id i → place_of ids id ≡ Some i
first-place ids id i first =
    let some = place_some ids id i first.here in
    some.1 ∙ ap Some (first_once ids id some.0 i (place-first ids id some.0 some.1) first)

module _ (ds : List TypeDecl) where
  pub declared_place : (id : List ℕ) → IsDeclared ds id → (i : ℕ) × (place_of (ids_of ds) id ≡ Some i)
  declared_place id (k, below, is) = place_some (ids_of ds) id k (slice_get-get_or (ids_of ds) k id below ∙ ap Some is)

  pub place_declared : (id : List ℕ) (i : ℕ) → place_of (ids_of ds) id ≡ Some i → IsDeclared ds id
  place_declared id i is =
      let here = (place-first (ids_of ds) id i is).here in
      (i, slice_get_within (ids_of ds) i id here, get_or_from_slice_get (ids_of ds) i id id here)

  pub decl_at : (id : List ℕ) (i : ℕ) → slice_get (ids_of ds) i ≡ Some id → (d : TypeDecl) × (slice_get ds i ≡ Some d) × (d.id ≡ id)
  decl_at id i is = by (slice_get ds i) refl
    where
      by : (o : Option TypeDecl) → slice_get ds i ≡ o → (d : TypeDecl) × (slice_get ds i ≡ Some d) × (d.id ≡ id)
      by None e = absurd (none-some id (sym (ap (option_map (λ d. d.id)) e) ∙ sym (slice_get-map (λ d. d.id) ds i) ∙ is))
      by (Some d) e = (d, e, some_is d.id id (sym (ap (option_map (λ d. d.id)) e) ∙ sym (slice_get-map (λ d. d.id) ds i) ∙ is))

  -- the declaration that an id names
  pub named_at : (id : List ℕ) (i : ℕ) → place_of (ids_of ds) id ≡ Some i → (d : TypeDecl) × Names ds id i d
  named_at id i is =
      let first = place-first (ids_of ds) id i is in
      let at = decl_at id i first.here in
      (at.0, record { first = first; here = at.1 })

  pub names_place : (id : List ℕ) (i : ℕ) (d : TypeDecl) → Names ds id i d → place_of (ids_of ds) id ≡ Some i
  names_place id i d names = first-place (ids_of ds) id i names.first

  -- what an id names is one
  pub names_once : (id : List ℕ) (i j : ℕ) (d e : TypeDecl) → Names ds id i d → Names ds id j e → (i ≡ j) × (d ≡ e)
  names_once id i j d e a b =
      let same = first_once (ids_of ds) id i j a.first b.first in
      (same, some_is d e (sym a.here ∙ ap (slice_get ds) same ∙ b.here))

  -- two ids that name one position are one
  pub names_id : (a b : List ℕ) (i : ℕ) (d e : TypeDecl) → Names ds a i d → Names ds b i e → a ≡ b
  names_id a b i d e x y = some_is a b (sym x.first.here ∙ y.first.here)
