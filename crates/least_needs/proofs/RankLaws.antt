-- Numbers that are large enough: a rank falls along targets, so that none are on a cycle, and those that meet the
-- equations are the least.
use Rattle.std.proofs.Common.{◌≡◌, ◌⊎◌, inl, inr, ℕ, zero, suc, ◌+◌, ◌*◌, ◌-◌, ◌<◌, ◌≤◌, List, [], ◌∷◌, length, get_or, refl, sym, ap, subst, arith}
use Rattle.std.proofs.Math.Nat.{mul-le-mul_left}
use Rattle.std.specs.List.{Contains}
use Rattle.std.proofs.lemmas.List.Elements.{Contains-append_cases}
use Rattle.std.proofs.lemmas.Bool.{cases_lt}
use Rattle.graph_cycles.specs.Graph.{Leads, Way, OnCycle, IsClosed}
use Rattle.least_needs.specs.declared.terms.Term.{Term}
use Rattle.least_needs.specs.Terms.{FreeLeadOn, listed, all_targets, graph_of, terms_of}
use Rattle.least_needs.specs.Needs.{sum_of, amount, largest, Meets, AtLeast, AreNeeds, rank}
use Rattle.least_needs.proofs.Bounds.{leads_node}
use Rattle.least_needs.proofs.ClosedTerms.{targets_in, length-graph}
use Rattle.least_needs.proofs.SourceLaws.{contains_cases}
use Rattle.least_needs.proofs.Finding.{largest_rises, target_below}

-- the term by which a statement leads to a target

abbrev LeadsBy : List Term → ℕ → Type 0
LeadsBy xs t = (x : Term) × Contains xs x × Contains (listed x.targets) t

leads_by : (xs : List Term) (t : ℕ) → Contains (all_targets xs) t → LeadsBy xs t
leads_by [] t at = absurd (omega (arith, at.1))
leads_by (x ∷ xs) t at = by_term (Contains-append_cases (listed x.targets) (all_targets xs) t at) (leads_by xs t)
  where
    by_term : Contains (listed x.targets) t ⊎ Contains (all_targets xs) t → (Contains (all_targets xs) t → LeadsBy xs t) → LeadsBy (x ∷ xs) t
    by_term (inl here) rest = (x, (0, omega arith, refl), here)
    by_term (inr later) rest = let more = rest later in (more.0, (suc more.1.0, omega (arith, more.1.1), more.1.2), more.2)

need_within : (need : ℕ → ℕ) (ts : List ℕ) (t : ℕ) → Contains ts t → need t ≤ sum_of need ts
need_within need [] t at = absurd (omega (arith, at.1))
need_within need (u ∷ ts) t at = by_place (contains_cases u t ts at) (need_within need ts t)
  where
    by_place : (t ≡ u) ⊎ Contains ts t → (Contains ts t → need t ≤ sum_of need ts) → need t ≤ sum_of need (u ∷ ts)
    by_place (inl is) rest = let same : need t ≡ need u = ap need is in omega arith
    by_place (inr later) rest = let le = rest later in omega arith

pub amount_within : (need : ℕ → ℕ) (xs : List Term) (x : Term) → Contains xs x → amount need x ≤ largest need xs
amount_within need [] x at = absurd (omega (arith, at.1))
amount_within need (y ∷ xs) x at = by_place at.0 at.1 at.2 (amount_within need xs x)
  where
    by_place : (k : ℕ) → k < length (y ∷ xs) → get_or (y ∷ xs) k x ≡ x → (Contains xs x → amount need x ≤ largest need xs) → amount need x ≤ largest need (y ∷ xs)
    by_place zero lt is rest = let same : amount need y ≡ amount need x = ap (amount need) is in omega arith
    by_place (suc k) lt is rest = let le = rest (k, omega arith, is) in omega arith

-- the rank falls

lower : (k a b c l s t : ℕ) → k ≡ l + 1 → c + a ≤ b → s < l → t < l → (c ≡ 0 → s < t) → k * a + (l - t) < k * b + (l - s)
lower k a b c l s t is le one two free = by_cost (cases_lt 0 c)
  where
    by_cost : (0 < c) ⊎ (c ≤ 0) → k * a + (l - t) < k * b + (l - s)
    by_cost (inl some) = let more : a + 1 ≤ b = omega arith in let times = mul-le-mul_left k more in omega (arith, times)
    by_cost (inr none) = let zero_cost : c ≡ 0 = omega arith in let later = free zero_cost in let more : a ≤ b = omega arith in let times = mul-le-mul_left k more in omega (arith, times)

pub falls : (terms : List (List Term)) → IsClosed (graph_of terms) → FreeLeadOn terms → (need : ℕ → ℕ) → AtLeast terms need → (s t : ℕ) → Leads (graph_of terms) s t → rank terms need t < rank terms need s
falls terms closed free need enough s t leads =
    let by = leads_by (terms_of terms s) t (subst (λ xs. Contains xs t) (targets_in terms s) leads) in
    let s_below : s < length terms = subst (λ n. s < n) (length-graph terms) (leads_node (graph_of terms) s t leads) in
    let t_below : t < length terms = subst (λ n. t < n) (length-graph terms) (closed.targets s t leads) in
    let one = need_within need (listed by.0.targets) t by.2 in
    let two = amount_within need (terms_of terms s) by.0 by.1 in
    let three = enough s s_below in
    lower (length terms + 1) (need t) (need s) by.0.cost (length terms) s t refl (omega arith) s_below t_below (λ none. free s by.0 t by.1 none by.2)

way_falls : (terms : List (List Term)) → IsClosed (graph_of terms) → FreeLeadOn terms → (need : ℕ → ℕ) → AtLeast terms need → (j s t : ℕ) → Way (graph_of terms) (suc j) s t → rank terms need t < rank terms need s
way_falls terms closed free need enough zero s t way = falls terms closed free need enough s t (subst (λ u. Leads (graph_of terms) s u) way.2 way.1)
way_falls terms closed free need enough (suc j) s t way =
    let first = falls terms closed free need enough s way.0 way.1 in
    let rest = way_falls terms closed free need enough j way.0 t way.2 in
    lt_then (rank terms need t) (rank terms need way.0) (rank terms need s) rest first
  where
    lt_then : (a b c : ℕ) → a < b → b < c → a < c
    lt_then a b c one two = omega arith

pub none_on_a_cycle : (terms : List (List Term)) → IsClosed (graph_of terms) → FreeLeadOn terms → (need : ℕ → ℕ) → AtLeast terms need → (s : ℕ) → OnCycle (graph_of terms) s → ⊥
none_on_a_cycle terms closed free need enough s cycle = not_below (rank terms need s) (way_falls terms closed free need enough cycle.0 s s cycle.1)
  where
    not_below : (a : ℕ) → a < a → ⊥
    not_below a lt = omega arith

-- numbers that meet the equations are the least

pub at_least : (terms : List (List Term)) (need : ℕ → ℕ) → Meets terms need → AtLeast terms need
at_least terms need meets s lt = let same = meets s lt in omega arith

within_rank : (terms : List (List Term)) → IsClosed (graph_of terms) → FreeLeadOn terms → (need other : ℕ → ℕ) → Meets terms need → AtLeast terms other → (m s : ℕ) → rank terms need s < m → s < length terms → need s ≤ other s
within_rank terms closed free need other meets enough zero s small lt = absurd (omega arith)
within_rank terms closed free need other meets enough (suc m) s small lt =
    let step = largest_rises need other (terms_of terms s) (λ t at. within_rank terms closed free need other meets enough m t (nearer (rank terms need t) (rank terms need s) m (falls terms closed free need (at_least terms need meets) s t (subst (λ xs. Contains xs t) (sym (targets_in terms s)) at)) small) (target_below terms s t closed at)) in
    let same = meets s lt in
    let here = enough s lt in
    joined (need s) (largest need (terms_of terms s)) (largest other (terms_of terms s)) (other s) same step here
  where
    nearer : (a b m : ℕ) → a < b → b < suc m → a < m
    nearer a b m one two = omega arith

    joined : (a b c d : ℕ) → a ≡ b → b ≤ c → c ≤ d → a ≤ d
    joined a b c d one two three = omega arith

pub meeting_is_least : (terms : List (List Term)) → IsClosed (graph_of terms) → FreeLeadOn terms → (need : ℕ → ℕ) → Meets terms need → AreNeeds terms need
meeting_is_least terms closed free need meets = record {
  meets = meets;
  least = λ other enough s lt. within_rank terms closed free need other meets enough (suc (rank terms need s)) s (next (rank terms need s)) lt;
}
  where
    next : (a : ℕ) → a < suc a
    next a = omega arith
