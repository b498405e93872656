-- Numbers that are all below a bound.
use Rattle.std.proofs.Common.{ℕ, zero, suc, ◌<◌, ◌≤◌, ◌⊎◌, inl, inr, List, [], ◌∷◌, ◌++◌, length, get_or, refl, subst, ◌∙◌, arith}
use Rattle.std.specs.List.{Contains}
use Rattle.std.proofs.lemmas.List.{get_or_default, get_or_past}
use Rattle.std.proofs.lemmas.Bool.{cases_lt}
use Rattle.graph_cycles.specs.Graph.{targets_of, Leads, IsClosed}
use Rattle.least_needs.specs.declared.terms.Term.{Term}
use Rattle.least_needs.specs.Terms.{AreBelow, listed, all_targets}
use Rattle.least_needs.specs.Distances.{AreInside}

pub below_at : (n : ℕ) (xs : List ℕ) (k : ℕ) → AreBelow n xs → k < length xs → get_or xs k 0 < n
below_at n [] k below lt = absurd (omega arith)
below_at n (x ∷ xs) zero below lt = below.0
below_at n (x ∷ xs) (suc k) below lt = below_at n xs k below.1 (omega arith)

pub below_contained : (n : ℕ) (xs : List ℕ) (x : ℕ) → AreBelow n xs → Contains xs x → x < n
below_contained n xs x below in_list = subst (λ y. y < n) (get_or_default xs in_list.0 0 x in_list.1 ∙ in_list.2) (below_at n xs in_list.0 below in_list.1)

pub below_from_each : (n : ℕ) (xs : List ℕ) → ((x : ℕ) → Contains xs x → x < n) → AreBelow n xs
below_from_each n [] each = tt
below_from_each n (x ∷ xs) each = (each x (0, omega arith, refl), below_from_each n xs (λ y at. each y (suc at.0, omega (arith, at.1), at.2)))

pub below_targets : (g : List (List ℕ)) (s : ℕ) → IsClosed g → AreBelow (length g) (targets_of g s)
below_targets g s closed = below_from_each (length g) (targets_of g s) (λ t leads. closed.targets s t leads)

pub below_left : (n : ℕ) (xs ys : List ℕ) → AreBelow n (xs ++ ys) → AreBelow n xs
below_left n [] ys below = tt
below_left n (x ∷ xs) ys below = (below.0, below_left n xs ys below.1)

pub below_right : (n : ℕ) (xs ys : List ℕ) → AreBelow n (xs ++ ys) → AreBelow n ys
below_right n [] ys below = below
below_right n (x ∷ xs) ys below = below_right n xs ys below.1

pub below_both : (n : ℕ) (xs ys : List ℕ) → AreBelow n xs → AreBelow n ys → AreBelow n (xs ++ ys)
below_both n [] ys one two = two
below_both n (x ∷ xs) ys one two = (one.0, below_both n xs ys one.1 two)

pub below_term : (n : ℕ) (xs : List Term) (k : ℕ) (d : Term) → AreBelow n (all_targets xs) → k < length xs → AreBelow n (listed (get_or xs k d).targets)
below_term n [] k d below lt = absurd (omega arith)
below_term n (x ∷ xs) zero d below lt = below_left n (listed x.targets) (all_targets xs) below
below_term n (x ∷ xs) (suc k) d below lt = below_term n xs k d (below_right n (listed x.targets) (all_targets xs) below) (omega arith)

pub inside_at : (n : ℕ) (lists : List (List ℕ)) (u : ℕ) → AreInside n lists → AreBelow n (targets_of lists u)
inside_at n [] u inside = tt
inside_at n (ts ∷ lists) zero inside = inside.0
inside_at n (ts ∷ lists) (suc u) inside = inside_at n lists u inside.1

-- a node that leads somewhere is a node
pub leads_node : (g : List (List ℕ)) (s t : ℕ) → Leads g s t → s < length g
leads_node g s t leads = by_place (cases_lt s (length g))
  where
    by_place : (s < length g) ⊎ (length g ≤ s) → s < length g
    by_place (inl lt) = lt
    by_place (inr past) = let none : Contains {X = ℕ} [] t = subst (λ xs. Contains xs t) (get_or_past g s [] past) leads in absurd (omega (arith, none.1))
