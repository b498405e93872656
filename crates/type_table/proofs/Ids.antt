-- The ids of declarations, taken one after another: where each is first, and which are repeated.
use Rattle.std.proofs.Common.{◌≡◌, ◌≢◌, ◌↔◌, ◌⊎◌, inl, inr, IsTrue, ℕ, zero, suc, ◌+◌, ◌<◌, ◌≤◌, Bool, true, false, true≢false, cond, List, [], ◌∷◌, ◌++◌, take, length, get_or, Option, Some, None, option_map, is_some, slice_get, refl, ap, sym, subst, ◌∙◌, arith}
use Rattle.std.specs.Prelude.{bytes_eq}
use Rattle.std.proofs.lemmas.List.{length-map, map-append, get_or_append_left, get_or_push, length_push}
use Rattle.std.proofs.lemmas.Bool.{cases_lt}
use Rattle.type_table.specs.Naming.{place_of}
use Rattle.type_table.specs.Refusals.{IsRepeatedId}
use Rattle.type_table.specs.Lookups.{found, names_in}
use Rattle.type_table.specs.Kept.{AreNumbered}
use Rattle.type_table.proofs.Plain.{none-some, some_is}
use Rattle.type_table.proofs.DecidedLists.{push_at}
use Rattle.type_table.proofs.Places.{bytes_cases, place-first, place_some}

-- the entries are the first i ids, each with its position
pub record AreListed (ids : List (List ℕ)) (i : ℕ) (es : List (List ℕ × ℕ)) : Type 0 where
  pub names : names_in es ≡ take i ids
  pub numbered : AreNumbered es

-- the first i ids are taken
pub record AreTaken (ids : List (List ℕ)) (i : ℕ) (es : List (List ℕ × ℕ)) (repeated : List Bool) : Type 0 where
  pub first : (id : List ℕ) → found es id ≡ place_of (take i ids) id
  pub each : length repeated ≡ i
  pub right : (k : ℕ) (id : List ℕ) → k < i → slice_get ids k ≡ Some id → IsTrue (get_or repeated k false) ↔ IsRepeatedId ids k id
  pub listed : ((k : ℕ) → k < i → get_or repeated k false ≡ false) → AreListed ids i es

abbrev or_else : {X : Type 0} → Option X → Option X → Option X
or_else None other = other
or_else (Some x) other = Some x

suc_or : (a b : Option ℕ) → option_map suc (or_else a b) ≡ or_else (option_map suc a) (option_map suc b)
suc_or None b = refl
suc_or (Some x) b = refl

suc_if : (b : Bool) (n : ℕ) → option_map suc (cond b (Some n) None) ≡ cond b (Some (suc n)) None
suc_if true n = refl
suc_if false n = refl

place_push : (ids : List (List ℕ)) (x id : List ℕ) → place_of (ids ++ x ∷ []) id ≡ or_else (place_of ids id) (cond (bytes_eq id x) (Some (length ids)) None)
place_push [] x id = refl
place_push (other ∷ ids) x id = by (bytes_eq id other) (place_push ids x id)
  where
    by : (b : Bool) → place_of (ids ++ x ∷ []) id ≡ or_else (place_of ids id) (cond (bytes_eq id x) (Some (length ids)) None)
        → cond b (Some 0) (option_map suc (place_of (ids ++ x ∷ []) id)) ≡ or_else (cond b (Some 0) (option_map suc (place_of ids id))) (cond (bytes_eq id x) (Some (suc (length ids))) None)
    by true rest = refl
    by false rest =
        ap (option_map suc) rest ∙ suc_or (place_of ids id) (cond (bytes_eq id x) (Some (length ids)) None)
        ∙ ap (or_else (option_map suc (place_of ids id))) (suc_if (bytes_eq id x) (length ids))

found_push : (es : List (List ℕ × ℕ)) (x : List ℕ) (n : ℕ) (id : List ℕ) → found (es ++ (x, n) ∷ []) id ≡ or_else (found es id) (cond (bytes_eq id x) (Some n) None)
found_push [] x n id = refl
found_push (e ∷ es) x n id = by (bytes_eq id e.0) (found_push es x n id)
  where
    by : (b : Bool) → found (es ++ (x, n) ∷ []) id ≡ or_else (found es id) (cond (bytes_eq id x) (Some n) None)
        → cond b (Some e.1) (found (es ++ (x, n) ∷ []) id) ≡ or_else (cond b (Some e.1) (found es id)) (cond (bytes_eq id x) (Some n) None)
    by true rest = refl
    by false rest = rest

pub take_next : (ids : List (List ℕ)) (i : ℕ) (x : List ℕ) → slice_get ids i ≡ Some x → (take (i + 1) ids ≡ take i ids ++ x ∷ []) × (length (take i ids) ≡ i)
take_next [] i x here = absurd (none-some x here)
take_next (other ∷ ids) zero x here = (ap (λ y. y ∷ []) (some_is other x here), refl)
take_next (other ∷ ids) (suc i) x here =
    let rest = take_next ids i x here in
    let more : suc i + 1 ≡ suc (i + 1) = omega arith in
    (ap (λ n. take n (other ∷ ids)) more ∙ ap (λ l. other ∷ l) rest.0, ap suc rest.1)

pub none_listed : (ids : List (List ℕ)) → AreListed ids 0 []
none_listed [] = record { names = refl; numbered = λ i e is. absurd (none-some e is) }
none_listed (x ∷ ids) = record { names = refl; numbered = λ i e is. absurd (none-some e is) }

-- one id more
pub listed_more : (ids : List (List ℕ)) (i : ℕ) (es : List (List ℕ × ℕ)) (x : List ℕ) → AreListed ids i es → slice_get ids i ≡ Some x → AreListed ids (i + 1) (es ++ (x, i) ∷ [])
listed_more ids i es x listed here = record { names = map-append (λ e. e.0) es ((x, i) ∷ []) ∙ ap (λ l. l ++ x ∷ []) listed.names ∙ sym next.0; numbered = numbered }
  where
    next : (take (i + 1) ids ≡ take i ids ++ x ∷ []) × (length (take i ids) ≡ i)
    next = take_next ids i x here

    count : length es ≡ i
    count = sym (length-map es (λ e. e.0)) ∙ ap length listed.names ∙ next.1

    numbered : AreNumbered (es ++ (x, i) ∷ [])
    numbered k e is = by (push_at es (x, i) e k is)
      where
        by : (slice_get es k ≡ Some e) ⊎ ((k ≡ length es) × ((x, i) ≡ e)) → e.1 ≡ k
        by (inl before) = listed.numbered k e before
        by (inr (last, same)) = sym (ap (λ y. y.1) same) ∙ sym count ∙ sym last

pub taken_get : (ids : List (List ℕ)) (i j : ℕ) (x : List ℕ) → slice_get (take i ids) j ≡ Some x → (j < i) × (slice_get ids j ≡ Some x)
taken_get [] zero j x here = absurd (none-some x here)
taken_get [] (suc i) j x here = absurd (none-some x here)
taken_get (other ∷ ids) zero j x here = absurd (none-some x here)
taken_get (other ∷ ids) (suc i) zero x here = (omega arith, here)
taken_get (other ∷ ids) (suc i) (suc j) x here = let rest = taken_get ids i j x here in (omega (arith, rest.0), rest.1)

pub get_taken : (ids : List (List ℕ)) (i j : ℕ) (x : List ℕ) → j < i → slice_get ids j ≡ Some x → slice_get (take i ids) j ≡ Some x
get_taken [] i j x less here = absurd (none-some x here)
get_taken (other ∷ ids) zero j x less here = absurd (omega (arith, less))
get_taken (other ∷ ids) (suc i) zero x less here = here
get_taken (other ∷ ids) (suc i) (suc j) x less here = get_taken ids i j x (omega (arith, less)) here

-- whether an id is among the first i
pub told_repeated : (ids : List (List ℕ)) (i : ℕ) (id : List ℕ) → IsTrue (is_some (place_of (take i ids) id)) ↔ IsRepeatedId ids i id
told_repeated ids i id = (by (place_of (take i ids) id) refl, from)
  where
    by : (o : Option ℕ) → place_of (take i ids) id ≡ o → IsTrue (is_some o) → IsRepeatedId ids i id
    by None e told = absurd (true≢false (sym told))
    by (Some j) e told = let at = taken_get ids i j id (place-first (take i ids) id j e).here in (j, at.0, at.1)

    from : IsRepeatedId ids i id → IsTrue (is_some (place_of (take i ids) id))
    from (j, less, here) = ap is_some (place_some (take i ids) id j (get_taken ids i j id less here)).1

pub none_taken : (ids : List (List ℕ)) → AreTaken ids 0 [] []
none_taken [] = record { first = λ id. refl; each = refl; right = λ k id less _. absurd (omega (arith, less)); listed = λ _. none_listed [] }
none_taken (x ∷ ids) = record { first = λ id. refl; each = refl; right = λ k id less _. absurd (omega (arith, less)); listed = λ _. none_listed (x ∷ ids) }

-- one id more, which is added if it isn't known
pub taken_more : (ids : List (List ℕ)) (i : ℕ) (es fs : List (List ℕ × ℕ)) (repeated : List Bool) (x : List ℕ) (known : Bool)
    → AreTaken ids i es repeated → slice_get ids i ≡ Some x → known ≡ is_some (found es x)
    → ((known ≡ true) × (fs ≡ es)) ⊎ ((known ≡ false) × (fs ≡ es ++ (x, i) ∷ []))
    → AreTaken ids (i + 1) fs (repeated ++ known ∷ [])
taken_more ids i es fs repeated x known taken here told added = record { first = first; each = length_push repeated known ∙ ap (λ n. n + 1) taken.each; right = right; listed = listed }
  where
    listed : ((k : ℕ) → k < i + 1 → get_or (repeated ++ known ∷ []) k false ≡ false) → AreListed ids (i + 1) fs
    listed none = by added
      where
        new : known ≡ false
        new = sym (get_or_push repeated known false i taken.each) ∙ none i (omega arith)

        earlier : (k : ℕ) → k < i → get_or repeated k false ≡ false
        earlier k less = sym (get_or_append_left repeated (known ∷ []) false k (omega (arith, less, taken.each))) ∙ none k (omega (arith, less))

        by : ((known ≡ true) × (fs ≡ es)) ⊎ ((known ≡ false) × (fs ≡ es ++ (x, i) ∷ [])) → AreListed ids (i + 1) fs
        by (inl (old, is)) = absurd (true≢false (sym old ∙ new))
        by (inr (_, is)) = subst (AreListed ids (i + 1)) (sym is) (listed_more ids i es x (taken.listed earlier) here)

    next : (id : List ℕ) → place_of (take (i + 1) ids) id ≡ or_else (place_of (take i ids) id) (cond (bytes_eq id x) (Some i) None)
    next id = let more = take_next ids i x here in
        ap (λ l. place_of l id) more.0 ∙ place_push (take i ids) x id ∙ ap (λ n. or_else (place_of (take i ids) id) (cond (bytes_eq id x) (Some n) None)) more.1

    stays : (o : Option ℕ) (other : Option ℕ) → is_some o ≡ true → or_else o other ≡ o
    stays None other e = absurd (true≢false (sym e))
    stays (Some n) other e = refl

    over : (o : Option ℕ) → or_else o None ≡ o
    over None = refl
    over (Some n) = refl

    first : (id : List ℕ) → found fs id ≡ place_of (take (i + 1) ids) id
    first id = by added (bytes_cases id x)
      where
        by : ((known ≡ true) × (fs ≡ es)) ⊎ ((known ≡ false) × (fs ≡ es ++ (x, i) ∷ [])) → ((id ≡ x) × (bytes_eq id x ≡ true)) ⊎ ((id ≢ x) × (bytes_eq id x ≡ false)) → found fs id ≡ place_of (take (i + 1) ids) id
        by (inr (new, is)) cases = ap (λ l. found l id) is ∙ found_push es x i id ∙ ap (λ o. or_else o (cond (bytes_eq id x) (Some i) None)) (taken.first id) ∙ sym (next id)
        by (inl (old, is)) (inl (same, equal)) =
            ap (λ l. found l id) is ∙ taken.first id
            ∙ sym (next id ∙ stays (place_of (take i ids) id) (cond (bytes_eq id x) (Some i) None)
            (ap is_some (sym (taken.first id)) ∙ ap (λ y. is_some (found es y)) same ∙ sym told ∙ old))
        by (inl (old, is)) (inr (differs, unequal)) =
            ap (λ l. found l id) is ∙ taken.first id
            ∙ sym (next id ∙ ap (λ b. or_else (place_of (take i ids) id) (cond b (Some i) None)) unequal ∙ over (place_of (take i ids) id))

    right : (k : ℕ) (id : List ℕ) → k < i + 1 → slice_get ids k ≡ Some id → IsTrue (get_or (repeated ++ known ∷ []) k false) ↔ IsRepeatedId ids k id
    right k id less is = by (cases_lt k i)
      where
        by : (k < i) ⊎ (i ≤ k) → IsTrue (get_or (repeated ++ known ∷ []) k false) ↔ IsRepeatedId ids k id
        by (inl before) = subst (λ b. IsTrue b ↔ IsRepeatedId ids k id) (sym (get_or_append_left repeated (known ∷ []) false k (omega (arith, before, taken.each)))) (taken.right k id before is)
        by (inr at) =
            let last : k ≡ i = omega (arith, at, less) in
            let same : x ≡ id = some_is x id (sym here ∙ ap (slice_get ids) (sym last) ∙ is) in
            let flag : get_or (repeated ++ known ∷ []) k false ≡ known = get_or_push repeated known false k (taken.each ∙ sym last) in
            let value : known ≡ is_some (place_of (take k ids) id) = told ∙ ap is_some (taken.first x) ∙ ap (λ y. is_some (place_of (take i ids) y)) same ∙ ap (λ n. is_some (place_of (take n ids) id)) (sym last) in
            subst (λ b. IsTrue b ↔ IsRepeatedId ids k id) (sym (flag ∙ value)) (told_repeated ids k id)

pub take_whole : (ids : List (List ℕ)) → take (length ids) ids ≡ ids
take_whole [] = refl
take_whole (x ∷ ids) = ap (λ l. x ∷ l) (take_whole ids)

pub all_listed : (ids : List (List ℕ)) (es : List (List ℕ × ℕ)) → AreListed ids (length ids) es → names_in es ≡ ids
all_listed ids es listed = listed.names ∙ take_whole ids

pub all_taken : (ids : List (List ℕ)) (es : List (List ℕ × ℕ)) (repeated : List Bool) → AreTaken ids (length ids) es repeated → (id : List ℕ) → found es id ≡ place_of ids id
all_taken ids es repeated taken id = taken.first id ∙ ap (λ l. place_of l id) (take_whole ids)
