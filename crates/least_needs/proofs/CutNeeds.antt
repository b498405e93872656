-- Needs by an order in which targets come first, each cut at the limit.
use Rattle.std.proofs.Common.{◌≡◌, ◌≢◌, ◌⊎◌, inl, inr, ℕ, ◌+◌, ◌<◌, ◌≤◌, min, List, [], ◌∷◌, length, get_or, set, refl, sym, ap, subst, ◌∙◌, arith}
use Rattle.std.specs.List.{Contains}
use Rattle.std.proofs.lemmas.List.{get_or-set_same, get_or-set_other, length-set, get_or_default}
use Rattle.std.proofs.lemmas.List.Elements.{Contains-append_left, Contains-append_right}
use Rattle.std.proofs.lemmas.Bool.{cases_eq, cases_lt}
use Rattle.graph_cycles.specs.Graph.{Leads, OnCycle}
use Rattle.graph_cycles.specs.Cycles.{HasEachOnce, TargetsFirst, IsBefore}
use Rattle.graph_cycles.proofs.Uses.{targets_before}
use Rattle.least_needs.specs.declared.terms.Term.{Term}
use Rattle.least_needs.specs.Terms.{listed, all_targets, graph_of, terms_of}
use Rattle.least_needs.specs.Needs.{sum_of, largest, Meets, limit, AreCutNeeds}
use Rattle.least_needs.proofs.ClosedTerms.{targets_in, length-graph}
use Rattle.least_needs.proofs.SourceLaws.{contains_first, contains_later}

-- a cut of a number, over any limit

cut_sum : (n need : ℕ → ℕ) (limit : ℕ) (ts : List ℕ) → ((t : ℕ) → Contains ts t → n t ≡ min (need t) limit) → min (sum_of n ts) limit ≡ min (sum_of need ts) limit
cut_sum n need limit [] same = refl
cut_sum n need limit (t ∷ ts) same =
    let here : n t ≡ min (need t) limit = same t (contains_first t ts) in
    let later : min (sum_of n ts) limit ≡ min (sum_of need ts) limit = cut_sum n need limit ts (λ u at. same u (contains_later t u ts at)) in
    omega arith

cut_largest : (n need : ℕ → ℕ) (limit : ℕ) (xs : List Term) → ((t : ℕ) → Contains (all_targets xs) t → n t ≡ min (need t) limit) → min (largest n xs) limit ≡ min (largest need xs) limit
cut_largest n need limit [] same = refl
cut_largest n need limit (x ∷ xs) same =
    let here : min (sum_of n (listed x.targets)) limit ≡ min (sum_of need (listed x.targets)) limit = cut_sum n need limit (listed x.targets) (λ t at. same t (Contains-append_left (listed x.targets) (all_targets xs) t at)) in
    let later : min (largest n xs) limit ≡ min (largest need xs) limit = cut_largest n need limit xs (λ t at. same t (Contains-append_right (listed x.targets) (all_targets xs) t at)) in
    omega arith

-- what the loop over the order keeps: the statements before this place have their needs
pub record AreCutSo (terms : List (List Term)) (order : List ℕ) (count : ℕ) (needs : List ℕ) : Type 0 where
  pub size : length needs ≡ length terms
  pub cut : (k : ℕ) → k < length needs → get_or needs k 0 ≤ limit
  pub so : (need : ℕ → ℕ) → Meets terms need → (i : ℕ) → i < count → get_or needs (get_or order i 0) 0 ≡ min (need (get_or order i 0)) limit

-- what is known of the order
pub record IsOrder (terms : List (List Term)) (order : List ℕ) : Type 0 where
  pub each_once : HasEachOnce (length (graph_of terms)) order
  pub first : TargetsFirst (graph_of terms) order
  pub acyclic : (s : ℕ) → OnCycle (graph_of terms) s → ⊥

pub order_below : (terms : List (List Term)) (order : List ℕ) (i : ℕ) → IsOrder terms order → i < length order → get_or order i 0 < length terms
order_below terms order i is lt = omega (arith, is.each_once.below i lt, length-graph terms)

abbrev at_place : List ℕ → ℕ → ℕ
at_place order i = get_or order i 0

-- the largest amount by the needs so far is the statement's need
cut_here : (terms : List (List Term)) (order : List ℕ) (i : ℕ) (needs : List ℕ) → IsOrder terms order → i < length order → AreCutSo terms order i needs → (need : ℕ → ℕ) → Meets terms need → min (largest (λ t. get_or needs t 0) (terms_of terms (get_or order i 0))) limit ≡ min (need (get_or order i 0)) limit
cut_here terms order i needs is lt so need meets =
    cut_largest (λ t. get_or needs t 0) need limit (terms_of terms (at_place order i)) by_target ∙ ap (λ n. min n limit) (sym (meets (at_place order i) (order_below terms order i is lt)))
  where
    by_target : (t : ℕ) → Contains (all_targets (terms_of terms (at_place order i))) t → get_or needs t 0 ≡ min (need t) limit
    by_target t at =
        let leads : Leads (graph_of terms) (at_place order i) t = subst (λ xs. Contains xs t) (sym (targets_in terms (at_place order i))) at in
        let before : IsBefore order i t = targets_before (graph_of terms) order is.first i t lt (is.acyclic (at_place order i)) leads in
        subst (λ u. get_or needs u 0 ≡ min (need u) limit) before.2 (so.so need meets before.0 before.1)

pub cut_next : (terms : List (List Term)) (order : List ℕ) (i : ℕ) (needs : List ℕ) (v : ℕ) → IsOrder terms order → i < length order → AreCutSo terms order i needs → v ≡ min (largest (λ t. get_or needs t 0) (terms_of terms (get_or order i 0))) limit → AreCutSo terms order (i + 1) (set needs (get_or order i 0) v)
cut_next terms order i needs v is lt so v_is = record {
  size = length-set needs (at_place order i) v ∙ so.size;
  cut = λ k within. by_place k within (cases_eq k (at_place order i));
  so = λ need meets j before. by_turn need meets j before (cases_eq (get_or order j 0) (at_place order i)) (cases_lt j i);
}
  where
    below : (at_place order i) < length needs
    below = omega (arith, order_below terms order i is lt, so.size)

    by_place : (k : ℕ) → k < length (set needs (at_place order i) v) → (k ≡ (at_place order i)) ⊎ (k ≢ (at_place order i)) → get_or (set needs (at_place order i) v) k 0 ≤ limit
    by_place k within (inl here) = let same : get_or (set needs (at_place order i) v) k 0 ≡ v = ap (λ x. get_or (set needs (at_place order i) v) x 0) here ∙ get_or-set_same needs (at_place order i) v 0 below in omega arith
    by_place k within (inr other) = rw (get_or-set_other needs (at_place order i) k v 0 other) (so.cut k (omega (arith, length-set needs (at_place order i) v)))

    by_turn : (need : ℕ → ℕ) → Meets terms need → (j : ℕ) → j < i + 1 → (get_or order j 0 ≡ (at_place order i)) ⊎ (get_or order j 0 ≢ (at_place order i)) → (j < i) ⊎ (i ≤ j) → get_or (set needs (at_place order i) v) (get_or order j 0) 0 ≡ min (need (get_or order j 0)) limit
    by_turn need meets j before (inl here) turn =
        let same : get_or (set needs (at_place order i) v) (get_or order j 0) 0 ≡ v = ap (λ x. get_or (set needs (at_place order i) v) x 0) here ∙ get_or-set_same needs (at_place order i) v 0 below in
        same ∙ v_is ∙ cut_here terms order i needs is lt so need meets ∙ ap (λ x. min (need x) limit) (sym here)
    by_turn need meets j before (inr other) (inl earlier) = get_or-set_other needs (at_place order i) (get_or order j 0) v 0 other ∙ so.so need meets j earlier
    by_turn need meets j before (inr other) (inr late) = let now : j ≡ i = omega arith in absurd (other (ap (λ x. get_or order x 0) now))

pub cut_all : (terms : List (List Term)) (order : List ℕ) (count : ℕ) (needs : List ℕ) → IsOrder terms order → length order ≤ count → AreCutSo terms order count needs → AreCutNeeds terms needs
cut_all terms order count needs is all so need meets s lt =
    let at : Contains order s = is.each_once.each s (omega (arith, length-graph terms)) in
    let same : get_or order at.0 0 ≡ s = get_or_default order at.0 0 s at.1 ∙ at.2 in
    subst (λ u. get_or needs u 0 ≡ min (need u) limit) same (so.so need meets at.0 (omega (arith, at.1)))
