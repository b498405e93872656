-- What a caller of the search goes on with: a graph stays closed as nodes are added, and targets come before.
use Rattle.std.proofs.Common.{◌≡◌, ◌≢◌, ℕ, ◌<◌, ◌≤◌, ◌⊎◌, inl, inr, List, [], ◌∷◌, ◌++◌, length, get_or, sym, subst, arith, length-append}
use Rattle.std.specs.List.{Contains}
use Rattle.std.proofs.lemmas.List.{get_or_append_left, get_or_push, get_or_past, length_push}
use Rattle.std.proofs.lemmas.Bool.{cases_eq, cases_lt}
use Rattle.graph_cycles.specs.Graph.{targets_of, Leads, LeadsBelow, Reaches, OnCycle}
use Rattle.graph_cycles.specs.Cycles.{TargetsFirst, IsBefore}
use Rattle.graph_cycles.proofs.Ways.{cycle_through}

pub targets_before : (g : List (List ℕ)) (order : List ℕ) → TargetsFirst g order → (i t : ℕ) → i < length order → (OnCycle g (get_or order i 0) → ⊥) → Leads g (get_or order i 0) t → IsBefore order i t
targets_before g order first i t lt acyclic leads = by_turn (first i t lt leads)
  where
    by_turn : IsBefore order i t ⊎ Reaches g t (get_or order i 0) → IsBefore order i t
    by_turn (inl before) = before
    by_turn (inr back) = absurd (acyclic (cycle_through g (get_or order i 0) t leads back))

pub adding_below : (n : ℕ) (g : List (List ℕ)) (targets : List ℕ) → LeadsBelow n g → ((t : ℕ) → Contains targets t → t < n) → LeadsBelow n (g ++ targets ∷ [])
adding_below n g targets below new s t leads = by_node (cases_lt s (length g)) (cases_eq s (length g))
  where
    by_node : (s < length g) ⊎ (length g ≤ s) → (s ≡ length g) ⊎ (s ≢ length g) → t < n
    by_node (inl old) last =
        let same : targets_of (g ++ targets ∷ []) s ≡ targets_of g s = get_or_append_left g (targets ∷ []) [] s old in
        below s t (subst (λ xs. Contains xs t) same leads)
    by_node (inr behind) (inl last) =
        let same : targets_of (g ++ targets ∷ []) s ≡ targets = get_or_push g targets [] s (sym last) in
        new t (subst (λ xs. Contains xs t) same leads)
    by_node (inr behind) (inr later) =
        let same : targets_of (g ++ targets ∷ []) s ≡ [] = get_or_past (g ++ targets ∷ []) s [] (omega (arith, length_push g targets)) in
        let none : Contains {X = ℕ} [] t = subst (λ xs. Contains xs t) same leads in
        absurd (omega (arith, none.1))
