-- The lists of sources are the graph against its direction.
use Rattle.std.proofs.Common.{◌≡◌, ◌≢◌, ◌⊎◌, inl, inr, ℕ, zero, suc, ◌+◌, ◌<◌, ◌≤◌, List, [], ◌∷◌, ◌++◌, length, get_or, set, replicate, refl, sym, ap, subst, ◌∙◌, arith}
use Rattle.std.specs.List.{Contains}
use Rattle.std.proofs.lemmas.List.{get_or-set_same, get_or-set_other, length-set, get_or-replicate, get_or_past, length-replicate, get_or-map, map-set}
use Rattle.std.proofs.lemmas.List.Elements.{Contains-append_left, Contains-push, Contains-push_cases}
use Rattle.std.proofs.lemmas.Bool.{cases_eq, cases_lt}
use Rattle.graph_cycles.specs.Graph.{targets_of, Leads, IsClosed}
use Rattle.least_needs.specs.Terms.{AreBelow}
use Rattle.std.specs.declared.vec.Vec.{Vec}
use Rattle.std.specs.declared.alloc.Global.{Global}
use Rattle.least_needs.specs.Distances.{AreInside, lists_of, with_source, with_sources}
use Rattle.least_needs.proofs.Bounds.{below_targets, below_from_each, leads_node}

pub contains_first : (x : ℕ) (xs : List ℕ) → Contains (x ∷ xs) x
contains_first x xs = (0, omega arith, refl)

pub contains_later : (x y : ℕ) (xs : List ℕ) → Contains xs y → Contains (x ∷ xs) y
contains_later x y xs at = (suc at.0, omega (arith, at.1), at.2)

pub contains_cases : (x y : ℕ) (xs : List ℕ) → Contains (x ∷ xs) y → (y ≡ x) ⊎ Contains xs y
contains_cases x y xs at = by_place at.0 at.1 at.2
  where
    by_place : (k : ℕ) → k < length (x ∷ xs) → get_or (x ∷ xs) k y ≡ y → (y ≡ x) ⊎ Contains xs y
    by_place zero lt is = inl (sym is)
    by_place (suc k) lt is = inr (k, omega arith, is)

-- one source is added to one list

abbrev with_one : List (List ℕ) → ℕ → ℕ → List (List ℕ)
with_one lists s t = set lists t (targets_of lists t ++ s ∷ [])

one_new : (lists : List (List ℕ)) (s t : ℕ) → t < length lists → Leads (with_one lists s t) t s
one_new lists s t lt = subst (λ xs. Contains xs s) (sym (get_or-set_same lists t (targets_of lists t ++ s ∷ []) [] lt)) (Contains-push (targets_of lists t) s)

one_old : (lists : List (List ℕ)) (s t u v : ℕ) → t < length lists → Leads lists u v → Leads (with_one lists s t) u v
one_old lists s t u v lt leads = by_list (cases_eq u t)
  where
    by_list : (u ≡ t) ⊎ (u ≢ t) → Leads (with_one lists s t) u v
    by_list (inl is) =
        let same : targets_of (with_one lists s t) u ≡ targets_of lists t ++ s ∷ [] = ap (λ x. targets_of (with_one lists s t) x) is ∙ get_or-set_same lists t (targets_of lists t ++ s ∷ []) [] lt in
        subst (λ xs. Contains xs v) (sym same) (Contains-append_left (targets_of lists t) (s ∷ []) v (subst (λ x. Leads lists x v) is leads))
    by_list (inr other) = subst (λ xs. Contains xs v) (sym (get_or-set_other lists t u (targets_of lists t ++ s ∷ []) [] other)) leads

one_cases : (lists : List (List ℕ)) (s t u v : ℕ) → t < length lists → Leads (with_one lists s t) u v → Leads lists u v ⊎ ((u ≡ t) × (v ≡ s))
one_cases lists s t u v lt leads = by_list (cases_eq u t)
  where
    by_added : u ≡ t → Contains (targets_of lists t) v ⊎ (s ≡ v) → Leads lists u v ⊎ ((u ≡ t) × (v ≡ s))
    by_added is (inl old) = inl (subst (λ x. Leads lists x v) (sym is) old)
    by_added is (inr new) = inr (is, sym new)

    by_list : (u ≡ t) ⊎ (u ≢ t) → Leads lists u v ⊎ ((u ≡ t) × (v ≡ s))
    by_list (inl is) =
        let same : targets_of (with_one lists s t) u ≡ targets_of lists t ++ s ∷ [] = ap (λ x. targets_of (with_one lists s t) x) is ∙ get_or-set_same lists t (targets_of lists t ++ s ∷ []) [] lt in
        by_added is (Contains-push_cases (targets_of lists t) s v (subst (λ xs. Contains xs v) same leads))
    by_list (inr other) = inl (subst (λ xs. Contains xs v) (get_or-set_other lists t u (targets_of lists t ++ s ∷ []) [] other) leads)

-- one source is added to some lists

pub length-with_source : (lists : List (List ℕ)) (s : ℕ) (ts : List ℕ) → length (with_source lists s ts) ≡ length lists
length-with_source lists s [] = refl
length-with_source lists s (t ∷ ts) = length-with_source (with_one lists s t) s ts ∙ length-set lists t (targets_of lists t ++ s ∷ [])

still_below : (lists : List (List ℕ)) (s t : ℕ) (ts : List ℕ) → AreBelow (length lists) ts → AreBelow (length (with_one lists s t)) ts
still_below lists s t ts below = subst (λ n. AreBelow n ts) (sym (length-set lists t (targets_of lists t ++ s ∷ []))) below

source_old : (lists : List (List ℕ)) (s : ℕ) (ts : List ℕ) (u v : ℕ) → AreBelow (length lists) ts → Leads lists u v → Leads (with_source lists s ts) u v
source_old lists s [] u v below leads = leads
source_old lists s (t ∷ ts) u v below leads = source_old (with_one lists s t) s ts u v (still_below lists s t ts below.1) (one_old lists s t u v below.0 leads)

source_new : (lists : List (List ℕ)) (s : ℕ) (ts : List ℕ) (u : ℕ) → AreBelow (length lists) ts → Contains ts u → Leads (with_source lists s ts) u s
source_new lists s [] u below at = absurd (omega (arith, at.1))
source_new lists s (t ∷ ts) u below at = by_place (contains_cases t u ts at) (source_new (with_one lists s t) s ts u (still_below lists s t ts below.1))
  where
    by_place : (u ≡ t) ⊎ Contains ts u → (Contains ts u → Leads (with_source (with_one lists s t) s ts) u s) → Leads (with_source (with_one lists s t) s ts) u s
    by_place (inl is) rest = source_old (with_one lists s t) s ts u s (still_below lists s t ts below.1) (subst (λ x. Leads (with_one lists s t) x s) (sym is) (one_new lists s t below.0))
    by_place (inr later) rest = rest later

source_cases : (lists : List (List ℕ)) (s : ℕ) (ts : List ℕ) (u v : ℕ) → AreBelow (length lists) ts → Leads (with_source lists s ts) u v → Leads lists u v ⊎ (Contains ts u × (v ≡ s))
source_cases lists s [] u v below leads = inl leads
source_cases lists s (t ∷ ts) u v below leads = by_later (source_cases (with_one lists s t) s ts u v (still_below lists s t ts below.1) leads)
  where
    by_one : Leads lists u v ⊎ ((u ≡ t) × (v ≡ s)) → Leads lists u v ⊎ (Contains (t ∷ ts) u × (v ≡ s))
    by_one (inl old) = inl old
    by_one (inr new) = inr (subst (λ x. Contains (t ∷ ts) x) (sym new.0) (contains_first t ts), new.1)

    by_later : Leads (with_one lists s t) u v ⊎ (Contains ts u × (v ≡ s)) → Leads lists u v ⊎ (Contains (t ∷ ts) u × (v ≡ s))
    by_later (inl old) = by_one (one_cases lists s t u v below.0 old)
    by_later (inr new) = inr (contains_later t u ts new.0, new.1)

-- the sources of a whole graph

rest_below : (lists : List (List ℕ)) (s : ℕ) (ts : List ℕ) (g : List (List ℕ)) → AreInside (length lists) g → AreInside (length (with_source lists s ts)) g
rest_below lists s ts g inside = subst (λ n. AreInside n g) (sym (length-with_source lists s ts)) inside

sources_old : (lists : List (List ℕ)) (i : ℕ) (g : List (List ℕ)) (u v : ℕ) → AreInside (length lists) g → Leads lists u v → Leads (with_sources lists i g) u v
sources_old lists i [] u v inside leads = leads
sources_old lists i (ts ∷ g) u v inside leads = sources_old (with_source lists i ts) (i + 1) g u v (rest_below lists i ts g inside.1) (source_old lists i ts u v inside.0 leads)

sources_new : (lists : List (List ℕ)) (i : ℕ) (g : List (List ℕ)) (k u : ℕ) → AreInside (length lists) g → Leads g k u → Leads (with_sources lists i g) u (i + k)
sources_new lists i [] k u inside leads = absurd (omega (arith, leads.1))
sources_new lists i (ts ∷ g) zero u inside leads =
    let here : Leads (with_source lists i ts) u i = source_new lists i ts u inside.0 leads in
    let is : i ≡ i + 0 = omega arith in
    subst (λ v. Leads (with_sources (with_source lists i ts) (i + 1) g) u v) is (sources_old (with_source lists i ts) (i + 1) g u i (rest_below lists i ts g inside.1) here)
sources_new lists i (ts ∷ g) (suc k) u inside leads =
    let is : (i + 1) + k ≡ i + suc k = omega arith in
    subst (λ v. Leads (with_sources (with_source lists i ts) (i + 1) g) u v) is (sources_new (with_source lists i ts) (i + 1) g k u (rest_below lists i ts g inside.1) leads)

sources_cases : (lists : List (List ℕ)) (i : ℕ) (g : List (List ℕ)) (u v : ℕ) → AreInside (length lists) g → Leads (with_sources lists i g) u v → Leads lists u v ⊎ ((k : ℕ) × (v ≡ i + k) × Leads g k u)
sources_cases lists i [] u v inside leads = inl leads
sources_cases lists i (ts ∷ g) u v inside leads = by_later (sources_cases (with_source lists i ts) (i + 1) g u v (rest_below lists i ts g inside.1) leads)
  where
    by_one : Leads lists u v ⊎ (Contains ts u × (v ≡ i)) → Leads lists u v ⊎ ((k : ℕ) × (v ≡ i + k) × Leads (ts ∷ g) k u)
    by_one (inl old) = inl old
    by_one (inr new) = let is = new.1 in inr (0, omega arith, new.0)

    by_later : Leads (with_source lists i ts) u v ⊎ ((k : ℕ) × (v ≡ (i + 1) + k) × Leads g k u) → Leads lists u v ⊎ ((k : ℕ) × (v ≡ i + k) × Leads (ts ∷ g) k u)
    by_later (inl old) = by_one (source_cases lists i ts u v inside.0 old)
    by_later (inr new) = let k = new.0 in let is = new.1 in inr (suc k, omega (arith, new.1), new.2)

pub inside_from : (n : ℕ) (lists : List (List ℕ)) → ((u : ℕ) → AreBelow n (targets_of lists u)) → AreInside n lists
inside_from n [] each = tt
inside_from n (ts ∷ lists) each = (each 0, inside_from n lists (λ u. each (suc u)))

pub inside_closed : (g : List (List ℕ)) → IsClosed g → AreInside (length g) g
inside_closed g closed = inside_from (length g) g (λ s. below_targets g s closed)

abbrev pub sources : List (List ℕ) → List (List ℕ)
sources g = with_sources (replicate (length g) []) 0 g

lists_inside : (g : List (List ℕ)) → IsClosed g → AreInside (length (replicate {A = List ℕ} (length g) [])) g
lists_inside g closed = subst (λ n. AreInside n g) (sym (length-replicate (length g) [])) (inside_closed g closed)

none_yet : (g : List (List ℕ)) (u v : ℕ) → Leads (replicate (length g) []) u v → ⊥
none_yet g u v leads = by_place (cases_lt u (length g))
  where
    empty : targets_of (replicate (length g) []) u ≡ [] → ⊥
    empty is = let none : Contains {X = ℕ} [] v = subst (λ xs. Contains xs v) is leads in absurd (omega (arith, none.1))

    by_place : (u < length g) ⊎ (length g ≤ u) → ⊥
    by_place (inl lt) = empty (get_or-replicate (length g) u [] [] lt)
    by_place (inr past) = empty (get_or_past (replicate (length g) []) u [] (omega (arith, length-replicate {A = List ℕ} (length g) [])))

pub leads_back : (g : List (List ℕ)) (s t : ℕ) → IsClosed g → Leads g s t → Leads (sources g) t s
leads_back g s t closed leads =
    let is : 0 + s ≡ s = omega arith in
    subst (λ v. Leads (sources g) t v) is (sources_new (replicate (length g) []) 0 g s t (lists_inside g closed) leads)

pub leads_there : (g : List (List ℕ)) (s t : ℕ) → IsClosed g → Leads (sources g) t s → Leads g s t
leads_there g s t closed leads = by_cases (sources_cases (replicate (length g) []) 0 g t s (lists_inside g closed) leads)
  where
    by_cases : Leads (replicate (length g) []) t s ⊎ ((k : ℕ) × (s ≡ 0 + k) × Leads g k t) → Leads g s t
    by_cases (inl old) = absurd (none_yet g t s old)
    by_cases (inr new) = let is : new.0 ≡ s = omega (arith, new.1) in subst (λ v. Leads g v t) is new.2

-- their length, and that all sources are nodes

pub length-with_sources : (lists : List (List ℕ)) (i : ℕ) (g : List (List ℕ)) → length (with_sources lists i g) ≡ length lists
length-with_sources lists i [] = refl
length-with_sources lists i (ts ∷ g) = length-with_sources (with_source lists i ts) (i + 1) g ∙ length-with_source lists i ts

pub length-sources : (g : List (List ℕ)) → length (sources g) ≡ length g
length-sources g = length-with_sources (replicate (length g) []) 0 g ∙ length-replicate (length g) []

-- the lists as the code has them

pub list_at : (lists : List (Vec ℕ Global)) (u : ℕ) (v : Vec ℕ Global) → u < length lists → v ≡ get_or lists u v → targets_of (lists_of lists) u ≡ v.items
list_at lists u v lt is = get_or-map (λ (w : Vec ℕ Global). w.items) lists u v [] lt ∙ ap (λ (w : Vec ℕ Global). w.items) (sym is)

pub list_pushed : (lists : List (Vec ℕ Global)) (t s : ℕ) (old new : Vec ℕ Global) → t < length lists → old ≡ get_or lists t old → new.items ≡ old.items ++ s ∷ [] → lists_of (set lists t new) ≡ set (lists_of lists) t (targets_of (lists_of lists) t ++ s ∷ [])
list_pushed lists t s old new lt is pushed =
    map-set (λ (w : Vec ℕ Global). w.items) lists t new
    ∙ ap (λ xs. set (lists_of lists) t xs) (pushed ∙ ap (λ xs. xs ++ s ∷ []) (sym (list_at lists t old lt is)))

pub sources_inside : (g : List (List ℕ)) → IsClosed g → AreInside (length g) (sources g)
sources_inside g closed = inside_from (length g) (sources g) (λ u. below_from_each (length g) (targets_of (sources g) u) (λ s leads. leads_node g s u (leads_there g s u closed leads)))
