-- From each node to the nearest, until the start is met again.
use Rattle.std.proofs.Common.{◌≡◌, ◌≢◌, ◌⊎◌, inl, inr, ℕ, zero, suc, ◌+◌, ◌-◌, ◌<◌, ◌≤◌, List, [], ◌∷◌, ◌++◌, Option, None, Some, length, get_or, refl, sym, ap, subst, ◌∙◌, arith}
use Rattle.std.specs.Prelude.{IsSome, unwrap_or}
use Rattle.std.proofs.lemmas.List.{get_or_append_left, get_or_push, length_push}
use Rattle.std.proofs.lemmas.Bool.{cases_lt}
use Rattle.graph_cycles.specs.Graph.{targets_of, Way}
use Rattle.least_needs.specs.Cycles.{IsNext, IsLeastOnCycle, IsCycle}
use Rattle.least_needs.specs.Distances.{AreDistances}
use Rattle.least_needs.specs.Nearest.{IsNear, IsNearest, distance}

-- the nearest target is the next

pub is_some : (g : List (List ℕ)) (start s j : ℕ) (distances : List (Option ℕ)) (r : Option ℕ) → AreDistances g start distances → Way g (suc j) s start → IsNearest (targets_of g s) distances r → IsSome r
is_some g start s j distances None are way nearest =
    let known = are.some way.0 j way.2 in
    let none : distance distances way.0 ≡ None = nearest way.0 way.1 in
    let some = known.1 in
    absurd cc
is_some g start s j distances (Some t) are way nearest = refl

pub is_next : (g : List (List ℕ)) (start s t : ℕ) (distances : List (Option ℕ)) → AreDistances g start distances → IsNearest (targets_of g s) distances (Some t) → IsNext g start s t
is_next g start s t distances are nearest = record {
  leads = nearest.0;
  edges = nearest.1.0;
  way = are.way t nearest.1.0 nearest.1.1;
  nearest = λ u i leads way. let known = are.some u i way in let within = known.2 in by_near u known.0 i within (nearest.1.2 u known.0 leads known.1);
  least = λ u leads way. let known = are.some u nearest.1.0 way in let within = known.2 in by_least u known.0 within (nearest.1.2 u known.0 leads known.1);
}
  where
    by_near : (u j i : ℕ) → j ≤ i → IsNear (nearest.1.0, t) (j, u) → nearest.1.0 ≤ i
    by_near u j i le (inl less) = omega arith
    by_near u j i le (inr same) = let e = same.0 in omega arith

    by_least : (u j : ℕ) → j ≤ nearest.1.0 → IsNear (nearest.1.0, t) (j, u) → t ≤ u
    by_least u j le (inl less) = absurd (omega arith)
    by_least u j le (inr same) = same.1

-- the nodes so far

pub record IsPath (g : List (List ℕ)) (start : ℕ) (nodes : List ℕ) (last : ℕ) : Type 0 where
  pub some : 0 < length nodes
  pub first : get_or nodes 0 0 ≡ start
  pub next : (i : ℕ) → i + 1 < length nodes → IsNext g start (get_or nodes i 0) (get_or nodes (i + 1) 0)
  pub apart : (i : ℕ) → i + 1 < length nodes → get_or nodes (i + 1) 0 ≢ start
  pub tail : IsNext g start (get_or nodes (length nodes - 1) 0) last

pub path_first : (g : List (List ℕ)) (start t : ℕ) → IsNext g start start t → IsPath g start (start ∷ []) t
path_first g start t next = record {
  some = omega arith;
  first = refl;
  next = λ i lt. absurd (omega arith);
  apart = λ i lt. absurd (omega arith);
  tail = next;
}

pub path_more : (g : List (List ℕ)) (start : ℕ) (nodes : List ℕ) (s t : ℕ) → IsPath g start nodes s → s ≢ start → IsNext g start s t → IsPath g start (nodes ++ s ∷ []) t
path_more g start nodes s t path ne is = record {
  some = omega (arith, size);
  first = old 0 path.some ∙ path.first;
  next = λ i lt. by_place i (cases_lt (i + 1) (length nodes)) lt;
  apart = λ i lt. by_apart i (cases_lt (i + 1) (length nodes)) lt;
  tail = let place : length (nodes ++ s ∷ []) - 1 ≡ length nodes = omega (arith, size) in rw (place, last (length nodes) refl) is;
}
  where
    size : length (nodes ++ s ∷ []) ≡ length nodes + 1
    size = length_push nodes s

    old : (i : ℕ) → i < length nodes → get_or (nodes ++ s ∷ []) i 0 ≡ get_or nodes i 0
    old i lt = get_or_append_left nodes (s ∷ []) 0 i lt

    last : (i : ℕ) → length nodes ≡ i → get_or (nodes ++ s ∷ []) i 0 ≡ s
    last i is_last = get_or_push nodes s 0 i is_last

    by_place : (i : ℕ) → (i + 1 < length nodes) ⊎ (length nodes ≤ i + 1) → i + 1 < length (nodes ++ s ∷ []) → IsNext g start (get_or (nodes ++ s ∷ []) i 0) (get_or (nodes ++ s ∷ []) (i + 1) 0)
    by_place i (inl before) lt = rw (old i (omega arith), old (i + 1) before) (path.next i before)
    by_place i (inr behind) lt =
        let here : i ≡ length nodes - 1 = omega (arith, size, path.some) in
        let tail : IsNext g start (get_or nodes i 0) s = subst (λ k. IsNext g start (get_or nodes k 0) s) (sym here) path.tail in
        rw (old i (omega (arith, size)), last (i + 1) (omega (arith, size, path.some))) tail

    by_apart : (i : ℕ) → (i + 1 < length nodes) ⊎ (length nodes ≤ i + 1) → i + 1 < length (nodes ++ s ∷ []) → get_or (nodes ++ s ∷ []) (i + 1) 0 ≢ start
    by_apart i (inl before) lt = rw (old (i + 1) before) (path.apart i before)
    by_apart i (inr behind) lt = rw (last (i + 1) (omega (arith, size))) ne

pub path_closes : (g : List (List ℕ)) (start : ℕ) (nodes : List ℕ) (s : ℕ) → IsPath g start nodes s → s ≡ start → IsLeastOnCycle g start → IsCycle g nodes
path_closes g start nodes s path back least = record {
  some = path.some;
  start = rw path.first least;
  next = rw path.first path.next;
  apart = rw path.first path.apart;
  back = rw path.first (subst (λ t. IsNext g start (get_or nodes (length nodes - 1) 0) t) back path.tail);
}

-- The start is reached from a node, in one edge at least unless it is the start.
pub goes_on : (g : List (List ℕ)) (start s t : ℕ) → IsNext g start s t → t ≢ start → (j : ℕ) × Way g (suc j) t start
goes_on g start s t is ne = by_edges is.edges is.way
  where
    by_edges : (j : ℕ) → Way g j t start → (j : ℕ) × Way g (suc j) t start
    by_edges zero way = absurd (ne way)
    by_edges (suc j) way = (j, way)

abbrev pub distance_of : List (Option ℕ) → ℕ → ℕ
distance_of distances t = unwrap_or (distance distances t) 0

known_distance : (distances : List (Option ℕ)) (t j : ℕ) → distance distances t ≡ Some j → distance_of distances t ≡ j
known_distance distances t j is = ap (λ d. unwrap_or d 0) is

pub comes_nearer : (g : List (List ℕ)) (start s t j : ℕ) (distances : List (Option ℕ)) → AreDistances g start distances → Way g j s start → s ≢ start → IsNext g start s t → distance_of distances t < distance_of distances s
comes_nearer g start s t j distances are way ne is =
    let here = are.some s j way in
    let there = are.some t is.edges is.way in
    let one = known_distance distances s here.0 here.1 in
    let two = known_distance distances t there.0 there.1 in
    let within = there.2 in
    let before = by_edges here.0 (are.way s here.0 here.1) in
    omega arith
  where
    by_edges : (i : ℕ) → Way g i s start → is.edges < i
    by_edges zero short = absurd (ne short)
    by_edges (suc i) short = let le = is.nearest short.0 i short.1 short.2 in omega arith
