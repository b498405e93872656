-- A statement is added to some terms.
use Rattle.std.proofs.Common.{◌≡◌, ◌≢◌, ◌⊎◌, inl, inr, ℕ, ◌<◌, ◌≤◌, List, [], ◌∷◌, ◌++◌, length, sym, subst, arith}
use Rattle.std.specs.List.{Contains}
use Rattle.std.proofs.lemmas.List.{get_or_append_left, get_or_push, get_or_past, length_push, map-append}
use Rattle.std.proofs.lemmas.Bool.{cases_eq, cases_lt}
use Rattle.graph_cycles.specs.Graph.{LeadsBelow}
use Rattle.graph_cycles.proofs.Uses.{adding_below}
use Rattle.least_needs.specs.declared.terms.Term.{Term}
use Rattle.least_needs.specs.Terms.{AreBelow, FreeLeadOn, all_targets, graph_of, listed, terms_of}
use Rattle.least_needs.specs.Needs.{amount, AtLeast}
use Rattle.least_needs.proofs.Bounds.{below_contained}
use Rattle.least_needs.proofs.RankLaws.{amount_within}

pub added_below : (n : ℕ) (terms : List (List Term)) (added : List Term) → LeadsBelow n (graph_of terms) → AreBelow n (all_targets added) → LeadsBelow n (graph_of (terms ++ added ∷ []))
added_below n terms added below new = subst (LeadsBelow n) (sym (map-append all_targets terms (added ∷ []))) (adding_below n (graph_of terms) (all_targets added) below (λ t at. below_contained n (all_targets added) t new at))

pub added_free : (terms : List (List Term)) (added : List Term) → FreeLeadOn terms → ((x : Term) (t : ℕ) → Contains added x → x.cost ≡ 0 → Contains (listed x.targets) t → length terms < t) → FreeLeadOn (terms ++ added ∷ [])
added_free terms added free new s x t at none leads = by_place (cases_lt s (length terms)) (cases_eq s (length terms))
  where
    by_place : (s < length terms) ⊎ (length terms ≤ s) → (s ≡ length terms) ⊎ (s ≢ length terms) → s < t
    by_place (inl old) last = free s x t (subst (λ xs. Contains xs x) (get_or_append_left terms (added ∷ []) [] s old) at) none leads
    by_place (inr behind) (inl last) =
        let later = new x t (subst (λ xs. Contains xs x) (get_or_push terms added [] s (sym last)) at) none leads in
        omega arith
    by_place (inr behind) (inr past) =
        let empty : Contains {X = Term} [] x = subst (λ xs. Contains xs x) (get_or_past (terms ++ added ∷ []) s [] (omega (arith, length_push terms added))) at in
        absurd (omega (arith, empty.1))

pub paid : (terms : List (List Term)) (need : ℕ → ℕ) → AtLeast terms need → (s : ℕ) (x : Term) → s < length terms → Contains (terms_of terms s) x → amount need x ≤ need s
paid terms need enough s x lt at =
    let one = amount_within need (terms_of terms s) x at in
    let two = enough s lt in
    omega arith
