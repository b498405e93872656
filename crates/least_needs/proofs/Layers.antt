-- One layer after another: the distances that are found are right.
use Rattle.std.proofs.Common.{◌≡◌, ◌≢◌, ◌⊎◌, inl, inr, ℕ, zero, suc, ◌+◌, ◌*◌, ◌<◌, ◌≤◌, min, List, [], ◌∷◌, ◌++◌, Option, None, Some, length, get_or, set, replicate, refl, sym, ap, subst, ◌∙◌, arith}
use Rattle.std.specs.List.{Contains}
use Rattle.std.proofs.lemmas.List.{get_or-set_same, get_or-set_other, length-set, get_or-replicate, get_or_past, length-replicate, length_push}
use Rattle.std.proofs.lemmas.List.Elements.{Contains-append_left, Contains-push, Contains-push_cases}
use Rattle.std.proofs.lemmas.Bool.{cases_eq, cases_lt}
use Rattle.graph_cycles.specs.Graph.{targets_of, Leads, Way, IsClosed}
use Rattle.least_needs.specs.Terms.{AreBelow}
use Rattle.least_needs.specs.Distances.{AreDistances, AreFound, AreInside, Found, found, reached_if, reached, all_reached, layer_reached, unreached}
use Rattle.least_needs.proofs.Bounds.{below_from_each, inside_at}
use Rattle.least_needs.proofs.SourceLaws.{sources, sources_inside, leads_back, leads_there, contains_cases, contains_first, contains_later}

abbrev dist : Found → ℕ → Option ℕ
dist f t = get_or f.distances t None

-- What is reached by some steps: nodes of which P holds have a distance now, and those that had none have this one.
record Reaches (edges : ℕ) (P : ℕ → Type 0) (old new : Found) : Type 0 where
  size : length new.distances ≡ length old.distances
  kept : (t j : ℕ) → dist old t ≡ Some j → dist new t ≡ Some j
  fresh : (t j : ℕ) → dist new t ≡ Some j → (dist old t ≡ Some j) ⊎ ((j ≡ edges) × P t × Contains new.next t)
  filled : (t : ℕ) → P t → (j : ℕ) × (dist new t ≡ Some j)
  listed : (t : ℕ) → Contains old.next t → Contains new.next t
  inside : (t : ℕ) → Contains new.next t → Contains old.next t ⊎ (dist new t ≡ Some edges)
  count : unreached new.distances + length new.next ≡ unreached old.distances + length old.next

reaches_none : (edges : ℕ) (P : ℕ → Type 0) (f : Found) → ((t : ℕ) → P t → ⊥) → Reaches edges P f f
reaches_none edges P f none = record {
  size = refl;
  kept = λ t j is. is;
  fresh = λ t j is. inl is;
  filled = λ t p. absurd (none t p);
  listed = λ t at. at;
  inside = λ t at. inl at;
  count = refl;
}

reaches_then : (edges : ℕ) (P Q R : ℕ → Type 0) (f g h : Found) → Reaches edges P f g → Reaches edges Q g h → ((t : ℕ) → P t → R t) → ((t : ℕ) → Q t → R t) → ((t : ℕ) → R t → P t ⊎ Q t) → Reaches edges R f h
reaches_then edges P Q R f g h one two from_p from_q to = record {
  size = two.size ∙ one.size;
  kept = λ t j is. two.kept t j (one.kept t j is);
  fresh = λ t j is. by_second t j (two.fresh t j is);
  filled = λ t r. by_which t (to t r);
  listed = λ t at. two.listed t (one.listed t at);
  inside = λ t at. by_listed t (two.inside t at);
  count = two.count ∙ one.count;
}
  where
    by_first : (t j : ℕ) → (dist f t ≡ Some j) ⊎ ((j ≡ edges) × P t × Contains g.next t) → (dist f t ≡ Some j) ⊎ ((j ≡ edges) × R t × Contains h.next t)
    by_first t j (inl old) = inl old
    by_first t j (inr new) = inr (new.0, from_p t new.1, two.listed t new.2)

    by_second : (t j : ℕ) → (dist g t ≡ Some j) ⊎ ((j ≡ edges) × Q t × Contains h.next t) → (dist f t ≡ Some j) ⊎ ((j ≡ edges) × R t × Contains h.next t)
    by_second t j (inl old) = by_first t j (one.fresh t j old)
    by_second t j (inr new) = inr (new.0, from_q t new.1, new.2)

    by_which : (t : ℕ) → P t ⊎ Q t → (j : ℕ) × (dist h t ≡ Some j)
    by_which t (inl p) = let was = one.filled t p in (was.0, two.kept t was.0 was.1)
    by_which t (inr q) = two.filled t q

    by_first_listed : (t : ℕ) → Contains f.next t ⊎ (dist g t ≡ Some edges) → Contains f.next t ⊎ (dist h t ≡ Some edges)
    by_first_listed t (inl old) = inl old
    by_first_listed t (inr new) = inr (two.kept t edges new)

    by_listed : (t : ℕ) → Contains g.next t ⊎ (dist h t ≡ Some edges) → Contains f.next t ⊎ (dist h t ≡ Some edges)
    by_listed t (inl old) = by_first_listed t (one.inside t old)
    by_listed t (inr new) = inr new

unreached_set : (ds : List (Option ℕ)) (t j : ℕ) → t < length ds → get_or ds t None ≡ None → unreached (set ds t (Some j)) + 1 ≡ unreached ds
unreached_set [] t j lt none = absurd (omega arith)
unreached_set (None ∷ ds) zero j lt none = omega arith
unreached_set (Some i ∷ ds) zero j lt none = absurd cc
unreached_set (None ∷ ds) (suc t) j lt none = let later = unreached_set ds t j (omega arith) none in omega arith
unreached_set (Some i ∷ ds) (suc t) j lt none = unreached_set ds t j (omega arith) none

-- one node

abbrev with_node : ℕ → Found → ℕ → Found
with_node edges f t = found (set f.distances t (Some edges)) (f.next ++ t ∷ [])

reaches_one : (edges : ℕ) (f : Found) (t : ℕ) → t < length f.distances → Reaches edges (λ u. u ≡ t) f (reached edges f t)
reaches_one edges f t lt = by_distance (dist f t) refl
  where
    here : (u : ℕ) → u ≡ t → dist (with_node edges f t) u ≡ Some edges
    here u is = ap (λ x. dist (with_node edges f t) x) is ∙ get_or-set_same f.distances t (Some edges) None lt

    other : (u : ℕ) → u ≢ t → dist (with_node edges f t) u ≡ dist f u
    other u ne = get_or-set_other f.distances t u (Some edges) None ne

    kept : dist f t ≡ None → (u j : ℕ) → dist f u ≡ Some j → (u ≡ t) ⊎ (u ≢ t) → dist (with_node edges f t) u ≡ Some j
    kept none u j is (inl same) = let e : dist f u ≡ None = ap (λ x. dist f x) same ∙ none in absurd cc
    kept none u j is (inr ne) = other u ne ∙ is

    fresh : (u j : ℕ) → dist (with_node edges f t) u ≡ Some j → (u ≡ t) ⊎ (u ≢ t) → (dist f u ≡ Some j) ⊎ ((j ≡ edges) × (u ≡ t) × Contains (with_node edges f t).next u)
    fresh u j is (inl same) = let e : Some edges ≡ Some j = sym (here u same) ∙ is in let same_edges : j ≡ edges = cc in inr (same_edges, same, subst (λ x. Contains (with_node edges f t).next x) (sym same) (Contains-push f.next t))
    fresh u j is (inr ne) = inl (sym (other u ne) ∙ is)

    inside : (u : ℕ) → Contains f.next u ⊎ (t ≡ u) → Contains f.next u ⊎ (dist (with_node edges f t) u ≡ Some edges)
    inside u (inl old) = inl old
    inside u (inr new) = inr (here u (sym new))

    by_distance : (d : Option ℕ) → dist f t ≡ d → Reaches edges (λ u. u ≡ t) f (reached_if d edges f t)
    by_distance None none = record {
      size = length-set f.distances t (Some edges);
      kept = λ u j is. kept none u j is (cases_eq u t);
      fresh = λ u j is. fresh u j is (cases_eq u t);
      filled = λ u is. (edges, here u is);
      listed = λ u at. Contains-append_left f.next (t ∷ []) u at;
      inside = λ u at. inside u (Contains-push_cases f.next t u at);
      count = let less = unreached_set f.distances t edges lt none in omega (arith, length_push f.next t);
    }
    by_distance (Some j) some = record {
      size = refl;
      kept = λ u i is. is;
      fresh = λ u i is. inl is;
      filled = λ u is. (j, ap (λ x. dist f x) is ∙ some);
      listed = λ u at. at;
      inside = λ u at. inl at;
      count = refl;
    }

-- some nodes

reaches_all : (edges : ℕ) (f : Found) (ts : List ℕ) → AreBelow (length f.distances) ts → Reaches edges (Contains ts) f (all_reached edges f ts)
reaches_all edges f [] below = reaches_none edges (Contains []) f (λ t at. absurd (omega (arith, at.1)))
reaches_all edges f (t ∷ ts) below =
    let one = reaches_one edges f t below.0 in
    let later = reaches_all edges (reached edges f t) ts (subst (λ n. AreBelow n ts) (sym one.size) below.1) in
    reaches_then edges (λ u. u ≡ t) (Contains ts) (Contains (t ∷ ts)) f (reached edges f t) (all_reached edges (reached edges f t) ts) one later
    (λ u is. subst (λ x. Contains (t ∷ ts) x) (sym is) (contains_first t ts))
    (λ u at. contains_later t u ts at)
    (λ u at. contains_cases t u ts at)

-- the sources of some nodes

abbrev IsSource : List (List ℕ) → List ℕ → ℕ → Type 0
IsSource lists us t = (u : ℕ) × Contains us u × Leads lists u t

reaches_layer : (lists : List (List ℕ)) (edges : ℕ) (f : Found) (us : List ℕ) → AreInside (length f.distances) lists → Reaches edges (IsSource lists us) f (layer_reached lists edges f us)
reaches_layer lists edges f [] inside = reaches_none edges (IsSource lists []) f (λ t source. absurd (omega (arith, source.1.1)))
reaches_layer lists edges f (u ∷ us) inside =
    let one = reaches_all edges f (targets_of lists u) (inside_at (length f.distances) lists u inside) in
    let later = reaches_layer lists edges (all_reached edges f (targets_of lists u)) us (subst (λ n. AreInside n lists) (sym one.size) inside) in
    reaches_then edges (Contains (targets_of lists u)) (IsSource lists us) (IsSource lists (u ∷ us)) f (all_reached edges f (targets_of lists u)) (layer_reached lists edges (all_reached edges f (targets_of lists u)) us) one later
    (λ t at. (u, contains_first u us, at))
    (λ t source. (source.0, contains_later u source.0 us source.1, source.2))
    (λ t source. by_place t source (contains_cases u source.0 us source.1))
  where
    by_place : (t : ℕ) (source : IsSource lists (u ∷ us) t) → (source.0 ≡ u) ⊎ Contains us source.0 → Contains (targets_of lists u) t ⊎ IsSource lists us t
    by_place t source (inl is) = inl (subst (λ x. Leads lists x t) is source.2)
    by_place t source (inr later) = inr (source.0, later, source.2)

-- the first layer

no_distance : (n t j : ℕ) → get_or (replicate {A = Option ℕ} n None) t None ≡ Some j → ⊥
no_distance n t j is = by_place (cases_lt t n)
  where
    by_place : (t < n) ⊎ (n ≤ t) → ⊥
    by_place (inl lt) = let none : get_or (replicate {A = Option ℕ} n None) t None ≡ None = get_or-replicate n t None None lt in absurd cc
    by_place (inr past) = let none : get_or (replicate {A = Option ℕ} n None) t None ≡ None = get_or_past (replicate n None) t None (omega (arith, length-replicate {A = Option ℕ} n None)) in absurd cc

unreached-replicate : (n : ℕ) → unreached (replicate n None) ≡ n
unreached-replicate zero = refl
unreached-replicate (suc n) = ap suc (unreached-replicate n)

abbrev pub begun : ℕ → ℕ → Found
begun n start = reached 0 (found (replicate n None) []) start

reaches_start : (n start : ℕ) → start < n → Reaches 0 (λ u. u ≡ start) (found (replicate n None) []) (begun n start)
reaches_start n start lt = reaches_one 0 (found (replicate n None) []) start (omega (arith, length-replicate {A = Option ℕ} n None))

pub first_found : (g : List (List ℕ)) (start : ℕ) → start < length g → AreFound g start 0 (begun (length g) start)
first_found g start lt = record {
  size = one.size ∙ length-replicate {A = Option ℕ} (length g) None;
  way = λ t j is. let new = is_new t j is in let zero_edges = new.0 in (omega arith, subst (λ i. Way g i t start) (sym new.0) new.1);
  some = λ t i le way. by_edges t i le way;
  layer = λ t is. (is_new t 0 is).2;
  inside = λ t at. by_listed t (one.inside t at);
}
  where
    one : Reaches 0 (λ u. u ≡ start) (found (replicate (length g) None) []) (begun (length g) start)
    one = reaches_start (length g) start lt

    is_new : (t j : ℕ) → dist (begun (length g) start) t ≡ Some j → (j ≡ 0) × (t ≡ start) × Contains (begun (length g) start).next t
    is_new t j is = by_fresh (one.fresh t j is)
      where
        by_fresh : (get_or (replicate (length g) None) t None ≡ Some j) ⊎ ((j ≡ 0) × (t ≡ start) × Contains (begun (length g) start).next t) → (j ≡ 0) × (t ≡ start) × Contains (begun (length g) start).next t
        by_fresh (inl old) = absurd (no_distance (length g) t j old)
        by_fresh (inr new) = new

    by_edges : (t i : ℕ) → i ≤ 0 → Way g i t start → (j : ℕ) × (dist (begun (length g) start) t ≡ Some j) × (j ≤ i)
    by_edges t zero le way =
        let filled = one.filled t way in
        let new = is_new t filled.0 filled.1 in
        let zero_edges = new.0 in
        (filled.0, filled.1, omega arith)
    by_edges t (suc i) le way = absurd (omega arith)

    by_listed : (t : ℕ) → Contains {X = ℕ} [] t ⊎ (dist (begun (length g) start) t ≡ Some 0) → dist (begun (length g) start) t ≡ Some 0
    by_listed t (inl none) = absurd (omega (arith, none.1))
    by_listed t (inr is) = is

pub first_count : (n start : ℕ) → start < n → unreached (begun n start).distances + length (begun n start).next ≡ n
first_count n start lt = let count = (reaches_start n start lt).count in omega (arith, unreached-replicate n)

-- the next layer

abbrev pub followed : List (List ℕ) → ℕ → Found → Found
followed g edges f = layer_reached (sources g) edges (found f.distances []) f.next

reaches_next : (g : List (List ℕ)) (edges : ℕ) (f : Found) → AreInside (length f.distances) (sources g) → Reaches edges (IsSource (sources g) f.next) (found f.distances []) (followed g edges f)
reaches_next g edges f inside = reaches_layer (sources g) edges (found f.distances []) f.next inside

pub next_count : (g : List (List ℕ)) (edges : ℕ) (f : Found) → AreInside (length f.distances) (sources g) → unreached (followed g edges f).distances + length (followed g edges f).next ≡ unreached f.distances
next_count g edges f inside = let count = (reaches_next g edges f inside).count in omega arith

abbrev Known : List (List ℕ) → ℕ → Found → ℕ → ℕ → Type 0
Known g k f t i = (j : ℕ) × (dist (followed g (k + 1) f) t ≡ Some j) × (j ≤ i)

pub next_found : (g : List (List ℕ)) (start k : ℕ) (f : Found) → IsClosed g → AreInside (length f.distances) (sources g) → AreFound g start k f → AreFound g start (k + 1) (followed g (k + 1) f)
next_found g start k f closed inside old = record {
  size = r.size ∙ old.size;
  way = λ t j is. by_fresh t j (r.fresh t j is);
  some = λ t i le way. by_edges t i way (cases_lt k i) le;
  layer = λ t is. by_layer t (r.fresh t (k + 1) is);
  inside = λ t at. by_listed t (r.inside t at);
}
  where
    r : Reaches (k + 1) (IsSource (sources g) f.next) (found f.distances []) (followed g (k + 1) f)
    r = reaches_next g (k + 1) f inside

    more : (t j : ℕ) → j ≡ k + 1 → IsSource (sources g) f.next t → Way g j t start
    more t j is source =
        let suc_k : suc k ≡ j = omega arith in
        let way : Way g k source.0 start = (old.way source.0 k (old.inside source.0 source.1)).1 in
        let all : Way g (suc k) t start = (source.0, leads_there g t source.0 closed source.2, way) in
        subst (λ i. Way g i t start) suc_k all

    by_fresh : (t j : ℕ) → (dist f t ≡ Some j) ⊎ ((j ≡ k + 1) × IsSource (sources g) f.next t × Contains (followed g (k + 1) f).next t) → (j ≤ k + 1) × Way g j t start
    by_fresh t j (inl was) = let known = old.way t j was in let le = known.0 in (omega arith, known.1)
    by_fresh t j (inr new) = let is = new.0 in (omega arith, more t j new.0 new.1)

    by_layer : (t : ℕ) → (dist f t ≡ Some (k + 1)) ⊎ ((k + 1 ≡ k + 1) × IsSource (sources g) f.next t × Contains (followed g (k + 1) f).next t) → Contains (followed g (k + 1) f).next t
    by_layer t (inl was) = let le = (old.way t (k + 1) was).0 in absurd (omega arith)
    by_layer t (inr new) = new.2

    by_listed : (t : ℕ) → Contains {X = ℕ} [] t ⊎ (dist (followed g (k + 1) f) t ≡ Some (k + 1)) → dist (followed g (k + 1) f) t ≡ Some (k + 1)
    by_listed t (inl none) = absurd (omega (arith, none.1))
    by_listed t (inr is) = is

    before : (t i : ℕ) → i ≤ k → Way g i t start → Known g k f t i
    before t i le way = let was = old.some t i le way in (was.0, r.kept t was.0 was.1, was.2)

    -- by the distance of the next node of the way
    by_distance : (t i u j : ℕ) → Leads g t u → dist f u ≡ Some j → j ≤ k → k ≤ i → (j < k) ⊎ (k ≤ j) → Known g k f t (suc i)
    by_distance t i u j leads is le at (inl less) =
        let way : Way g (suc j) t start = (u, leads, (old.way u j is).1) in
        let known = before t (suc j) (omega arith) way in
        let within = known.2 in
        (known.0, known.1, omega arith)
    by_distance t i u j leads is le at (inr same) =
        let k_is : j ≡ k = omega arith in
        let here : Contains f.next u = old.layer u (is ∙ ap Some k_is) in
        let filled = r.filled t (u, here, leads_back g t u closed leads) in
        let known = by_fresh t filled.0 (r.fresh t filled.0 filled.1) in
        let within = known.0 in
        (filled.0, filled.1, omega arith)

    by_edges : (t i : ℕ) → Way g i t start → (k < i) ⊎ (i ≤ k) → i ≤ k + 1 → Known g k f t i
    by_edges t i way (inr le) within = before t i le way
    by_edges t zero way (inl past) within = absurd (omega arith)
    by_edges t (suc i) way (inl past) within =
        let next = old.some way.0 i (omega arith) way.2 in
        let le = next.2 in
        by_distance t i way.0 next.0 way.1 next.1 (omega arith) (omega arith) (cases_lt next.0 k)

-- no further layer

pub all_found : (g : List (List ℕ)) (start k : ℕ) (f : Found) → AreFound g start k f → length f.next ≡ 0 → AreDistances g start f.distances
all_found g start k f is none = record { size = is.size; way = λ t j at. (is.way t j at).1; some = λ t i way. by_edges i t way }
  where
    by_distance : (i t u j : ℕ) → Leads g t u → dist f u ≡ Some j → j ≤ i → (j < k) ⊎ (k ≤ j) → (l : ℕ) × (dist f t ≡ Some l) × (l ≤ suc i)
    by_distance i t u j leads at le (inl less) =
        let known = is.some t (suc j) (omega arith) (u, leads, (is.way u j at).1) in
        let within = known.2 in
        (known.0, known.1, omega arith)
    by_distance i t u j leads at le (inr past) =
        let within = (is.way u j at).0 in
        let k_is : j ≡ k = omega arith in
        let here : Contains f.next u = is.layer u (at ∙ ap Some k_is) in
        absurd (omega (arith, here.1))

    by_edges : (i t : ℕ) → Way g i t start → (l : ℕ) × (dist f t ≡ Some l) × (l ≤ i)
    by_edges zero t way = is.some t 0 (omega arith) way
    by_edges (suc i) t way =
        let next = by_edges i way.0 way.2 in
        by_distance i t way.0 next.0 way.1 next.1 next.2 (cases_lt next.0 k)

-- what the loop over the layers keeps, over the lists
pub record AreLayers (g : List (List ℕ)) (start edges : ℕ) (ds : List (Option ℕ)) (layer : List ℕ) : Type 0 where
  pub are : AreFound g start edges (found ds layer)
  pub room : edges + unreached ds + min 1 (length layer) ≤ length g

pub begins : (g : List (List ℕ)) (start : ℕ) (ds from_ds : List (Option ℕ)) (layer from_layer : List ℕ) → start < length g → found ds layer ≡ reached 0 (found from_ds from_layer) start → from_ds ≡ replicate (length g) None → from_layer ≡ [] → AreLayers g start 0 ds layer
begins g start ds from_ds layer from_layer lt is all none =
    let same : found ds layer ≡ begun (length g) start = is ∙ ap (λ x. reached 0 (found x from_layer) start) all ∙ ap (λ x. reached 0 (found (replicate (length g) None) x) start) none in
    let count : unreached ds + length layer ≡ length g = subst (λ f. unreached f.distances + length f.next ≡ length g) (sym same) (first_count (length g) start lt) in
    record { are = subst (AreFound g start 0) (sym same) (first_found g start lt); room = omega arith }

pub layer_below : (g : List (List ℕ)) (start k : ℕ) (f : Found) → AreFound g start k f → AreBelow (length g) f.next
layer_below g start k f is = below_from_each (length g) f.next (λ t at. by_place t (is.inside t at) (cases_lt t (length g)))
  where
    by_place : (t : ℕ) → dist f t ≡ Some k → (t < length g) ⊎ (length g ≤ t) → t < length g
    by_place t some (inl lt) = lt
    by_place t some (inr past) = let none : dist f t ≡ None = get_or_past f.distances t None (omega (arith, is.size)) in absurd cc

pub proceeds : (g : List (List ℕ)) (start k : ℕ) (lists : List (List ℕ)) (ds from_ds new_ds : List (Option ℕ)) (layer from_layer new_layer : List ℕ) → IsClosed g → AreLayers g start k ds layer → 0 < length layer → found new_ds new_layer ≡ layer_reached lists (k + 1) (found from_ds []) from_layer → lists ≡ sources g → from_ds ≡ ds → from_layer ≡ layer → AreLayers g start (k + 1) new_ds new_layer × (2 * unreached new_ds + length new_layer < 2 * unreached ds + length layer)
proceeds g start k lists ds from_ds new_ds layer from_layer new_layer closed is some next lists_is ds_is layer_is =
    let same : found new_ds new_layer ≡ followed g (k + 1) (found ds layer) = next ∙ ap (λ x. layer_reached x (k + 1) (found from_ds []) from_layer) lists_is ∙ ap (λ x. layer_reached (sources g) (k + 1) (found x []) from_layer) ds_is ∙ ap (λ x. layer_reached (sources g) (k + 1) (found ds []) x) layer_is in
    let inside : AreInside (length ds) (sources g) = subst (λ n. AreInside n (sources g)) (sym is.are.size) (sources_inside g closed) in
    let count : unreached new_ds + length new_layer ≡ unreached ds = subst (λ x. unreached x.distances + length x.next ≡ unreached ds) (sym same) (next_count g (k + 1) (found ds layer) inside) in
    let room = is.room in
    (record { are = subst (AreFound g start (k + 1)) (sym same) (next_found g start k (found ds layer) closed inside is.are); room = omega arith }, omega arith)
