-- Where no statement is on a cycle there are least needs.
use Rattle.std.proofs.Common.{◌≡◌, ◌⊎◌, inl, inr, ℕ, zero, suc, ◌<◌, ◌≤◌, List, [], ◌∷◌, length, refl, sym, subst, arith}
use Rattle.std.specs.List.{Contains}
use Rattle.std.proofs.lemmas.List.Elements.{Contains-append_left, Contains-append_right}
use Rattle.graph_cycles.specs.Graph.{Leads, Way, OnCycle, IsClosed}
use Rattle.least_needs.specs.declared.terms.Term.{Term}
use Rattle.least_needs.specs.Terms.{listed, all_targets, graph_of, terms_of}
use Rattle.least_needs.specs.Needs.{sum_of, largest, AtLeast, AreNeeds}
use Rattle.least_needs.proofs.ClosedTerms.{targets_in, length-graph}
use Rattle.least_needs.proofs.SourceLaws.{contains_first, contains_later, contains_cases}
use Rattle.least_needs.proofs.LongWays.{long_way}

-- numbers that are larger at the targets give larger amounts

sum_rises : (n o : ℕ → ℕ) (ts : List ℕ) → ((t : ℕ) → Contains ts t → n t ≤ o t) → sum_of n ts ≤ sum_of o ts
sum_rises n o [] le = omega arith
sum_rises n o (t ∷ ts) le =
    let here : n t ≤ o t = le t (contains_first t ts) in
    let later : sum_of n ts ≤ sum_of o ts = sum_rises n o ts (λ u at. le u (contains_later t u ts at)) in
    omega arith

pub largest_rises : (n o : ℕ → ℕ) (xs : List Term) → ((t : ℕ) → Contains (all_targets xs) t → n t ≤ o t) → largest n xs ≤ largest o xs
largest_rises n o [] le = omega arith
largest_rises n o (x ∷ xs) le =
    let here : sum_of n (listed x.targets) ≤ sum_of o (listed x.targets) = sum_rises n o (listed x.targets) (λ t at. le t (Contains-append_left (listed x.targets) (all_targets xs) t at)) in
    let later : largest n xs ≤ largest o xs = largest_rises n o xs (λ t at. le t (Contains-append_right (listed x.targets) (all_targets xs) t at)) in
    omega arith

pub largest_same : (n o : ℕ → ℕ) (xs : List Term) → ((t : ℕ) → Contains (all_targets xs) t → n t ≡ o t) → largest n xs ≡ largest o xs
largest_same n o xs same =
    let one = largest_rises n o xs (λ t at. let is = same t at in omega arith) in
    let two = largest_rises o n xs (λ t at. let is = same t at in omega arith) in
    omega arith

pub target_below : (terms : List (List Term)) (s t : ℕ) → IsClosed (graph_of terms) → Contains (all_targets (terms_of terms s)) t → t < length terms
target_below terms s t closed at =
    let lt = closed.targets s t (subst (λ xs. Contains xs t) (sym (targets_in terms s)) at) in
    omega (arith, length-graph terms)

-- what a statement needs for so many steps
abbrev pub bounded : List (List Term) → ℕ → ℕ → ℕ
bounded terms zero s = 0
bounded terms (suc k) s = largest (bounded terms k) (terms_of terms s)

bounded_least : (terms : List (List Term)) (k : ℕ) (other : ℕ → ℕ) → IsClosed (graph_of terms) → AtLeast terms other → (s : ℕ) → s < length terms → bounded terms k s ≤ other s
bounded_least terms zero other closed enough s lt = omega arith
bounded_least terms (suc k) other closed enough s lt =
    let step = largest_rises (bounded terms k) other (terms_of terms s) (λ t at. bounded_least terms k other closed enough t (target_below terms s t closed at)) in
    let here = enough s lt in
    omega arith

-- of each of some numbers one of two things holds: the first of all, or the second of one
all_or_one : (A B : ℕ → Type 0) (ts : List ℕ) → ((t : ℕ) → A t ⊎ B t) → ((t : ℕ) → Contains ts t → A t) ⊎ ((t : ℕ) × Contains ts t × B t)
all_or_one A B [] each = inl (λ t at. absurd (omega (arith, at.1)))
all_or_one A B (t ∷ ts) each = by_first (each t) (all_or_one A B ts each)
  where
    by_place : (u : ℕ) → A t → ((v : ℕ) → Contains ts v → A v) → (u ≡ t) ⊎ Contains ts u → A u
    by_place u here rest (inl is) = subst A (sym is) here
    by_place u here rest (inr later) = rest u later

    by_first : A t ⊎ B t → ((u : ℕ) → Contains ts u → A u) ⊎ ((u : ℕ) × Contains ts u × B u) → ((u : ℕ) → Contains (t ∷ ts) u → A u) ⊎ ((u : ℕ) × Contains (t ∷ ts) u × B u)
    by_first (inr one) rest = inr (t, contains_first t ts, one)
    by_first (inl here) (inl rest) = inl (λ u at. by_place u here rest (contains_cases t u ts at))
    by_first (inl here) (inr one) = inr (one.0, contains_later t one.0 ts one.1, one.2)

abbrev LeadsFar : List (List Term) → ℕ → ℕ → Type 0
LeadsFar terms k s = (u : ℕ) × Way (graph_of terms) k s u

-- one step more changes nothing, or as many steps lead from the statement
settles : (terms : List (List Term)) (k s : ℕ) → (bounded terms (suc k) s ≡ bounded terms k s) ⊎ LeadsFar terms k s
settles terms zero s = inr (s, refl)
settles terms (suc k) s = by_targets (all_or_one (λ t. bounded terms (suc k) t ≡ bounded terms k t) (LeadsFar terms k) (all_targets (terms_of terms s)) (λ t. settles terms k t))
  where
    by_targets : ((t : ℕ) → Contains (all_targets (terms_of terms s)) t → bounded terms (suc k) t ≡ bounded terms k t) ⊎ ((t : ℕ) × Contains (all_targets (terms_of terms s)) t × LeadsFar terms k t) → (bounded terms (suc (suc k)) s ≡ bounded terms (suc k) s) ⊎ LeadsFar terms (suc k) s
    by_targets (inl same) = inl (largest_same (bounded terms (suc k)) (bounded terms k) (terms_of terms s) same)
    by_targets (inr far) =
        let leads : Leads (graph_of terms) s far.0 = subst (λ xs. Contains xs far.0) (sym (targets_in terms s)) far.1 in
        inr (far.2.0, (far.0, leads, far.2.1))

abbrev pub least_of : List (List Term) → ℕ → ℕ
least_of terms = bounded terms (length (graph_of terms))

pub there_are : (terms : List (List Term)) → IsClosed (graph_of terms) → ((s : ℕ) → OnCycle (graph_of terms) s → ⊥) → AreNeeds terms (least_of terms)
there_are terms closed acyclic = record {
  meets = λ s lt. by_steps s lt (settles terms (length (graph_of terms)) s);
  least = λ other enough s lt. bounded_least terms (length (graph_of terms)) other closed enough s lt;
}
  where
    by_steps : (s : ℕ) → s < length terms → (bounded terms (suc (length (graph_of terms))) s ≡ least_of terms s) ⊎ LeadsFar terms (length (graph_of terms)) s → least_of terms s ≡ largest (least_of terms) (terms_of terms s)
    by_steps s lt (inl same) = sym same
    by_steps s lt (inr far) = let cycle = long_way (graph_of terms) s far.0 closed (omega (arith, length-graph terms)) far.1 in absurd (acyclic cycle.0 cycle.1)
