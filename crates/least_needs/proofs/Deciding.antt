-- Some terms have needs that are small enough, a need that is too large, or a cycle.
use Rattle.std.proofs.Common.{◌≡◌, ◌≢◌, ◌⊎◌, inl, inr, ℕ, zero, suc, ◌<◌, ◌≤◌, List, [], ◌∷◌, ◌++◌, length, map, get_or, sym, subst, ◌∙◌, arith}
use Rattle.std.specs.List.{range_with_len}
use Rattle.std.proofs.lemmas.List.FromFn.{get_or-map-range_with_len, length-map-range_with_len}
use Rattle.std.proofs.lemmas.Bool.{cases_eq, cases_lt}
use Rattle.graph_cycles.specs.Graph.{Leads, Way, OnCycle, IsClosed}
use Rattle.least_needs.specs.declared.terms.Term.{Term}
use Rattle.least_needs.specs.Terms.{graph_of, terms_of}
use Rattle.least_needs.specs.Needs.{AreNeeds, limit}
use Rattle.least_needs.specs.Cycles.{IsNext, IsLeastOnCycle, IsCycle}
use Rattle.least_needs.specs.Answers.{AreSmallNeeds, IsTooLarge}
use Rattle.least_needs.proofs.Bounds.{leads_node}
use Rattle.least_needs.proofs.Finding.{least_of, there_are, largest_same, target_below}
use Rattle.least_needs.proofs.Going.{IsPath, path_first, path_more, path_closes}

-- Of numbers below a bound none has a property, or one is the least that has it.
none_or_least : (P : ℕ → Type 0) (n : ℕ) → (((s : ℕ) → s < n → P s → ⊥) → ⊥) → ((s : ℕ) → P s → ((u : ℕ) → u < s → P u → ⊥) → ⊥) → ⊥
none_or_least P zero none least = none (λ s lt p. absurd (omega arith))
none_or_least P (suc n) none least = none_or_least P n (λ before. none (λ s lt. by_place before s lt (cases_lt s n))) least
  where
    by_place : ((u : ℕ) → u < n → P u → ⊥) → (s : ℕ) → s < suc n → (s < n) ⊎ (n ≤ s) → P s → ⊥
    by_place before s lt (inl below) p = before s below p
    by_place before s lt (inr past) p = least s p (λ u less. before u (omega arith))

-- a number that has a property is no less than the least one
least_within : (P : ℕ → Type 0) (s u : ℕ) → ((v : ℕ) → v < s → P v → ⊥) → P u → s ≤ u
least_within P s u first p = by_order (cases_lt u s)
  where
    by_order : (u < s) ⊎ (s ≤ u) → s ≤ u
    by_order (inl lt) = absurd (first u lt p)
    by_order (inr le) = le

module _ (g : List (List ℕ)) (start : ℕ) where
  -- a node from which the start is reached in one edge at least, and in no more than so many, has a next
  next_of : (s j : ℕ) → Way g (suc j) s start → ((t : ℕ) (is : IsNext g start s t) → is.edges ≤ j → ⊥) → ⊥
  next_of s j way some =
      none_or_least (λ i. Way g (suc i) s start) (suc j) (λ none. none j (omega arith) way) (λ e shortest first.
      none_or_least (λ t. Leads g s t × Way g e t start) (suc shortest.0) (λ none. none shortest.0 (omega arith) (shortest.1, shortest.2)) (λ t at before.
      some t
      (record {
        leads = at.0;
        edges = e;
        way = at.1;
        nearest = λ u i leads rest. least_within (λ k. Way g (suc k) s start) e i first (u, leads, rest);
        least = λ u leads rest. least_within (λ v. Leads g s v × Way g e v start) t u before (leads, rest);
      })
      (least_within (λ k. Way g (suc k) s start) e j first way)))

  module _ (least : IsLeastOnCycle g start) (some : (nodes : List ℕ) → IsCycle g nodes → ⊥) where
    -- from the last of a path the start is reached in no more than so many edges
    goes : (m s j : ℕ) (nodes : List ℕ) → j ≤ m → Way g j s start → IsPath g start nodes s → ⊥
    goes m s zero nodes le way path = some nodes (path_closes g start nodes s path way least)
    goes zero s (suc j) nodes le way path = absurd (omega arith)
    goes (suc m) s (suc j) nodes le way path =
        by_start (cases_eq s start) (λ ne. next_of s j way (λ t is nearer. goes m t is.edges (nodes ++ s ∷ []) (omega arith) is.way (path_more g start nodes s t path ne is)))
      where
        by_start : (s ≡ start) ⊎ (s ≢ start) → (s ≢ start → ⊥) → ⊥
        by_start (inl back) further = some nodes (path_closes g start nodes s path back least)
        by_start (inr ne) further = further ne

    named : ⊥
    named = next_of start least.is.0 least.is.1 (λ t is nearer. goes is.edges t is.edges (start ∷ []) (omega arith) is.way (path_first g start t is))

-- where a node is the least on a cycle, a list names the cycle
pub cycle_named : (g : List (List ℕ)) (start : ℕ) → IsLeastOnCycle g start → ((nodes : List ℕ) → IsCycle g nodes → ⊥) → ⊥
cycle_named g start least some = named g start least some

-- a number for each statement, in a list
abbrev listed_needs : List (List Term) → List ℕ
listed_needs terms = map (least_of terms) (range_with_len 0 (length terms))

module _ (terms : List (List Term)) (closed : IsClosed (graph_of terms)) where
  listed_at : (s : ℕ) → s < length terms → get_or (listed_needs terms) s 0 ≡ least_of terms s
  listed_at s lt = get_or-map-range_with_len (least_of terms) 0 (length terms) s s 0 lt (omega arith)

  module _ (acyclic : (s : ℕ) → OnCycle (graph_of terms) s → ⊥) where
    are : AreNeeds terms (least_of terms)
    are = there_are terms closed acyclic

    all_small : ((s : ℕ) → s < length terms → least_of terms s < limit) → AreSmallNeeds terms (listed_needs terms)
    all_small small = record {
      acyclic = acyclic;
      for_each = length-map-range_with_len (least_of terms) 0 (length terms);
      are = record {
        meets = λ s lt. listed_at s lt ∙ are.meets s lt ∙ largest_same (least_of terms) (λ t. get_or (listed_needs terms) t 0) (terms_of terms s) (λ t at. sym (listed_at t (target_below terms s t closed at)));
        least = λ other enough s lt. subst (λ n. n ≤ other s) (sym (listed_at s lt)) (are.least other enough s lt);
      };
      small = λ s lt. subst (λ n. n < limit) (sym (listed_at s lt)) (small s lt);
    }

    -- a statement that needs too much, or that isn't one
    abbrev IsLarge : ℕ → Type 0
    IsLarge s = (s < length terms) × (limit ≤ least_of terms s)

    below_limit : (need bound : ℕ) → (bound ≤ need → ⊥) → need < bound
    below_limit need bound not = by_size (cases_lt need bound)
      where
        by_size : (need < bound) ⊎ (bound ≤ need) → need < bound
        by_size (inl lt) = lt
        by_size (inr le) = absurd (not le)

    small_or_large : ((needs : List ℕ) → AreSmallNeeds terms needs → ⊥) → ((s : ℕ) → IsTooLarge terms s → ⊥) → ⊥
    small_or_large small large =
        none_or_least IsLarge (length terms)
        (λ none. small (listed_needs terms) (all_small (λ s lt. below_limit (least_of terms s) limit (λ le. none s lt (lt, le)))))
        (λ s is first. large s (record {
          acyclic = acyclic;
          need = least_of terms;
          are = are;
          below = is.0;
          large = is.1;
          first = λ u lt. below_limit (least_of terms u) limit (λ le. first u lt (before u s (length terms) lt is.0, le));
        }))
      where
        before : (u s n : ℕ) → u < s → s < n → u < n
        before u s n lt below = omega arith

pub needs_or_fault : (terms : List (List Term)) → IsClosed (graph_of terms) → ((needs : List ℕ) → AreSmallNeeds terms needs → ⊥) → ((s : ℕ) → IsTooLarge terms s → ⊥) → ((nodes : List ℕ) → IsCycle (graph_of terms) nodes → ⊥) → ⊥
needs_or_fault terms closed small large cycle =
    none_or_least (OnCycle (graph_of terms)) (length (graph_of terms))
    (λ none. small_or_large terms closed (λ s on. none s (leads_node (graph_of terms) s on.1.0 on.1.1) on) small large)
    (λ s on first. cycle_named (graph_of terms) s (record { is = on; first = first }) cycle)
