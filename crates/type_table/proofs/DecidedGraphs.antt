-- Induction along the edges of a graph without cycles: what holds of a node once it holds of all its targets holds of each node.
use Rattle.std.proofs.Common.{◌≡◌, ◌⊎◌, inl, inr, ℕ, zero, suc, ◌+◌, ◌<◌, ◌≤◌, Bool, true, false, true≢false, cond, eqb, ◌||◌, List, ap, sym, subst, ◌∙◌, arith}
use Rattle.std.proofs.lemmas.Bool.{cases_eq, cases_Bool, eqb-true, eq-eqb, ne_eqb, or_cases}
use Rattle.graph_cycles.specs.Graph.{Leads, Reaches, OnCycle}
use Rattle.graph_cycles.proofs.Ways.{reaches_itself, reaches_then, leads_then, cycle_through}

abbrev weight : Bool → ℕ
weight b = cond b 0 1

-- how many numbers below n aren't marked
abbrev unmarked : (ℕ → Bool) → ℕ → ℕ
unmarked marks zero = 0
unmarked marks (suc n) = weight (marks n) + unmarked marks n

abbrev marked : (ℕ → Bool) → ℕ → ℕ → Bool
marked marks i j = eqb i j || marks j

fewer_at : (a b : Bool) → weight (a || b) ≤ weight b
fewer_at true true = omega arith
fewer_at true false = omega arith
fewer_at false true = omega arith
fewer_at false false = omega arith

no_more : (marks : ℕ → Bool) (i n : ℕ) → unmarked (marked marks i) n ≤ unmarked marks n
no_more marks i zero = omega arith
no_more marks i (suc n) = omega (arith, fewer_at (eqb i n) (marks n), no_more marks i n)

-- one mark more on a number below n leaves fewer
fewer : (marks : ℕ → Bool) (i n : ℕ) → marks i ≡ false → i < n → unmarked (marked marks i) n < unmarked marks n
fewer marks i zero unseen below = absurd (omega (arith, below))
fewer marks i (suc n) unseen below = by (cases_eq i n) (fewer marks i n unseen)
  where
    by : (i ≡ n) ⊎ (i ≡ n → ⊥) → (i < n → unmarked (marked marks i) n < unmarked marks n) → unmarked (marked marks i) (suc n) < unmarked marks (suc n)
    by (inl same) rest =
        let now : weight (eqb i n || marks n) ≡ 0 = ap (λ b. weight (b || marks n)) (eq-eqb i n same) in
        let before : weight (marks n) ≡ 1 = ap weight (ap marks (sym same) ∙ unseen) in
        omega (arith, now, before, no_more marks i n)
    by (inr differs) rest =
        let now : weight (eqb i n || marks n) ≡ weight (marks n) = ap (λ b. weight (b || marks n)) (ne_eqb i n differs) in
        let lower : i < n = omega (arith, below, differs) in
        omega (arith, now, rest lower)

-- of the nodes that are in a set below n, which no edge leaves
module _ (g : List (List ℕ)) (n : ℕ) (In Holds : ℕ → Type 0)
    (under : (i : ℕ) → In i → i < n)
    (closed : (i j : ℕ) → In i → Leads g i j → In j)
    (acyclic : (i : ℕ) → In i → OnCycle g i → ⊥)
    (step : (i : ℕ) → In i → ((j : ℕ) → Leads g i j → Holds j) → Holds i) where
  -- a way of one edge or more
  abbrev Above : ℕ → ℕ → Type 0
  Above j i = (u : ℕ) × Leads g j u × Reaches g u i

  abbrev AllAbove : (ℕ → Bool) → ℕ → Type 0
  AllAbove marks i = (j : ℕ) → marks j ≡ true → Above j i

  unseen : (marks : ℕ → Bool) (i : ℕ) → In i → AllAbove marks i → marks i ≡ false
  unseen marks i inside above = by (cases_Bool (marks i))
    where
      by : (marks i ≡ true) ⊎ (marks i ≡ false) → marks i ≡ false
      by (inl seen) = let way = above i seen in absurd (acyclic i inside (cycle_through g i way.0 way.1 way.2))
      by (inr new) = new

  goes_down : (marks : ℕ → Bool) (i j : ℕ) → AllAbove marks i → Leads g i j → AllAbove (marked marks i) j
  goes_down marks i j above leads l seen = by (or_cases (eqb i l) (marks l) seen)
    where
      by : (eqb i l ≡ true) ⊎ (marks l ≡ true) → Above l j
      by (inl same) = subst (λ m. Above m j) (eqb-true i l same) (j, leads, reaches_itself g j)
      by (inr old) = let way = above l old in (way.0, way.1, reaches_then g way.0 i j way.2 (leads_then g i j j leads (reaches_itself g j)))

  within : (k : ℕ) (marks : ℕ → Bool) (i : ℕ) → In i → unmarked marks n ≤ k → AllAbove marks i → Holds i
  within zero marks i inside few above = absurd (omega (arith, few, fewer marks i n (unseen marks i inside above) (under i inside)))
  within (suc k) marks i inside few above =
      step i inside (λ j leads. within k (marked marks i) j (closed i j inside leads) (omega (arith, few, fewer marks i n (unseen marks i inside above) (under i inside))) (goes_down marks i j above leads))

  pub along_edges : (i : ℕ) → In i → Holds i
  along_edges i inside = within (unmarked (λ j. false) n) (λ j. false) i inside (omega arith) (λ j seen. absurd (true≢false (sym seen)))
