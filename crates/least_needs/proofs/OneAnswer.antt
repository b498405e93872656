-- There is one answer.
use Rattle.std.proofs.Common.{◌≡◌, ◌⊎◌, inl, inr, ℕ, zero, suc, ◌+◌, ◌-◌, ◌<◌, ◌≤◌, List, length, get_or, sym, subst, ◌∙◌, arith}
use Rattle.std.proofs.lemmas.List.{ext_get_or}
use Rattle.std.proofs.lemmas.Bool.{cases_lt}
use Rattle.graph_cycles.specs.Graph.{Way}
use Rattle.least_needs.specs.declared.terms.Term.{Term}
use Rattle.least_needs.specs.Terms.{graph_of}
use Rattle.least_needs.specs.Needs.{AreNeeds, limit}
use Rattle.least_needs.specs.Cycles.{IsNext, IsLeastOnCycle, IsCycle}
use Rattle.least_needs.specs.Answers.{AreSmallNeeds, IsTooLarge}
use Rattle.least_needs.proofs.RankLaws.{at_least}

-- numbers over variables

two_ways : (a b : ℕ) → a ≤ b → b ≤ a → a ≡ b
two_ways a b one two = omega arith

not_both : (a b : ℕ) → a < b → b ≤ a → ⊥
not_both a b one two = omega arith

-- needs

pub one_system : (terms : List (List Term)) (need other : ℕ → ℕ) → AreNeeds terms need → AreNeeds terms other → (s : ℕ) → s < length terms → need s ≡ other s
one_system terms need other one two s lt = two_ways (need s) (other s) (one.least other (at_least terms other two.meets) s lt) (two.least need (at_least terms need one.meets) s lt)

pub one_list : (terms : List (List Term)) (needs others : List ℕ) → AreSmallNeeds terms needs → AreSmallNeeds terms others → needs ≡ others
one_list terms needs others one two = ext_get_or 0 needs others (one.for_each ∙ sym two.for_each) (λ i lt. one_system terms (λ s. get_or needs s 0) (λ s. get_or others s 0) one.are two.are i (subst (λ n. i < n) one.for_each lt))

-- the first statement that needs too much

not_before : (terms : List (List Term)) (s t : ℕ) → IsTooLarge terms s → IsTooLarge terms t → s < t → ⊥
not_before terms s t one two lt =
    let same : one.need s ≡ two.need s = one_system terms one.need two.need one.are two.are s one.below in
    not_both (two.need s) limit (two.first s lt) (subst (λ n. limit ≤ n) same one.large)

pub one_statement : (terms : List (List Term)) (s t : ℕ) → IsTooLarge terms s → IsTooLarge terms t → s ≡ t
one_statement terms s t one two = by_order (cases_lt s t) (cases_lt t s)
  where
    by_order : (s < t) ⊎ (t ≤ s) → (t < s) ⊎ (s ≤ t) → s ≡ t
    by_order (inl lt) other = absurd (not_before terms s t one two lt)
    by_order (inr le) (inl lt) = absurd (not_before terms t s two one lt)
    by_order (inr le) (inr ge) = two_ways s t ge le

-- the cycle

one_start : (g : List (List ℕ)) (s t : ℕ) → IsLeastOnCycle g s → IsLeastOnCycle g t → s ≡ t
one_start g s t one two = by_order (cases_lt s t) (cases_lt t s)
  where
    by_order : (s < t) ⊎ (t ≤ s) → (t < s) ⊎ (s ≤ t) → s ≡ t
    by_order (inl lt) other = absurd (two.first s lt one.is)
    by_order (inr le) (inl lt) = absurd (one.first t lt two.is)
    by_order (inr le) (inr ge) = two_ways s t ge le

one_next : (g : List (List ℕ)) (start s t u : ℕ) → IsNext g start s t → IsNext g start s u → t ≡ u
one_next g start s t u one two =
    let same : one.edges ≡ two.edges = two_ways one.edges two.edges (one.nearest u two.edges two.leads two.way) (two.nearest t one.edges one.leads one.way) in
    two_ways t u (one.least u two.leads (subst (λ j. Way g j u start) (sym same) two.way)) (two.least t one.leads (subst (λ j. Way g j t start) same one.way))

same_starts : (g : List (List ℕ)) (a b : List ℕ) → IsCycle g a → IsCycle g b → get_or a 0 0 ≡ get_or b 0 0
same_starts g a b one two = one_start g (get_or a 0 0) (get_or b 0 0) one.start two.start

-- the next of a node of b, as one of a
as_in : (g : List (List ℕ)) (x y s t u : ℕ) → x ≡ y → s ≡ t → IsNext g y t u → IsNext g x s u
as_in g x y s t u starts nodes is = rw (starts, nodes) is

same_nodes : (g : List (List ℕ)) (a b : List ℕ) → IsCycle g a → IsCycle g b → (i : ℕ) → i < length a → i < length b → get_or a i 0 ≡ get_or b i 0
same_nodes g a b one two zero la lb = same_starts g a b one two
same_nodes g a b one two (suc i) la lb =
    let before = same_nodes g a b one two i (omega arith) (omega arith) in
    let is : i + 1 ≡ suc i = omega arith in
    let from_a : IsNext g (get_or a 0 0) (get_or a i 0) (get_or a (suc i) 0) = subst (λ k. IsNext g (get_or a 0 0) (get_or a i 0) (get_or a k 0)) is (one.next i (omega arith)) in
    let from_b : IsNext g (get_or b 0 0) (get_or b i 0) (get_or b (suc i) 0) = subst (λ k. IsNext g (get_or b 0 0) (get_or b i 0) (get_or b k 0)) is (two.next i (omega arith)) in
    one_next g (get_or a 0 0) (get_or a i 0) (get_or a (suc i) 0) (get_or b (suc i) 0) from_a (as_in g (get_or a 0 0) (get_or b 0 0) (get_or a i 0) (get_or b i 0) (get_or b (suc i) 0) (same_starts g a b one two) before from_b)

not_shorter : (g : List (List ℕ)) (a b : List ℕ) → IsCycle g a → IsCycle g b → length a < length b → ⊥
not_shorter g a b one two lt =
    let i = length a - 1 in
    let some = one.some in
    let same = same_nodes g a b one two i (omega arith) (omega arith) in
    let more : i + 1 < length b = omega arith in
    let back = one_next g (get_or a 0 0) (get_or a i 0) (get_or a 0 0) (get_or b (i + 1) 0) one.back (as_in g (get_or a 0 0) (get_or b 0 0) (get_or a i 0) (get_or b i 0) (get_or b (i + 1) 0) (same_starts g a b one two) same (two.next i more)) in
    two.apart i more (sym back ∙ same_starts g a b one two)

pub one_cycle : (g : List (List ℕ)) (nodes others : List ℕ) → IsCycle g nodes → IsCycle g others → nodes ≡ others
one_cycle g nodes others one two = ext_get_or 0 nodes others size (λ i lt. same_nodes g nodes others one two i lt (subst (λ n. i < n) size lt))
  where
    by_order : (length nodes < length others) ⊎ (length others ≤ length nodes) → (length others < length nodes) ⊎ (length nodes ≤ length others) → length nodes ≡ length others
    by_order (inl lt) other = absurd (not_shorter g nodes others one two lt)
    by_order (inr le) (inl lt) = absurd (not_shorter g others nodes two one lt)
    by_order (inr le) (inr ge) = two_ways (length nodes) (length others) ge le

    size : length nodes ≡ length others
    size = by_order (cases_lt (length nodes) (length others)) (cases_lt (length others) (length nodes))

-- never two

pub not_small_and_large : (terms : List (List Term)) (needs : List ℕ) (s : ℕ) → AreSmallNeeds terms needs → IsTooLarge terms s → ⊥
not_small_and_large terms needs s small large =
    let same : get_or needs s 0 ≡ large.need s = one_system terms (λ u. get_or needs u 0) large.need small.are large.are s large.below in
    not_both (large.need s) limit (subst (λ n. n < limit) same (small.small s large.below)) large.large

pub not_small_on_a_cycle : (terms : List (List Term)) (needs nodes : List ℕ) → AreSmallNeeds terms needs → IsCycle (graph_of terms) nodes → ⊥
not_small_on_a_cycle terms needs nodes small cycle = small.acyclic (get_or nodes 0 0) cycle.start.is

pub not_large_on_a_cycle : (terms : List (List Term)) (s : ℕ) (nodes : List ℕ) → IsTooLarge terms s → IsCycle (graph_of terms) nodes → ⊥
not_large_on_a_cycle terms s nodes large cycle = large.acyclic (get_or nodes 0 0) cycle.start.is
