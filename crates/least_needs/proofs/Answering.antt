-- What is found of the graph and of the cut needs gives the answer.
use Rattle.std.proofs.Common.{◌≡◌, ◌⊎◌, inl, inr, ℕ, ◌<◌, ◌≤◌, min, List, None, Some, Bool, false, length, get_or, sym, subst, ◌∙◌, arith}
use Rattle.std.specs.Prelude.{IsTrue}
use Rattle.std.proofs.lemmas.Bool.{cases_lt}
use Rattle.graph_cycles.specs.Graph.{OnCycle, IsClosed}
use Rattle.graph_cycles.specs.Cycles.{TellsCycles}
use Rattle.least_needs.specs.declared.terms.Term.{Term}
use Rattle.least_needs.specs.First.{IsFirst}
use Rattle.least_needs.specs.Terms.{graph_of, terms_of}
use Rattle.least_needs.specs.Needs.{AreNeeds, AreCutNeeds, limit}
use Rattle.least_needs.specs.Cycles.{IsLeastOnCycle}
use Rattle.least_needs.specs.Answers.{AreSmallNeeds, IsTooLarge}
use Rattle.least_needs.proofs.Bounds.{leads_node}
use Rattle.least_needs.proofs.Finding.{least_of, there_are, largest_same, target_below}

-- cycles

pub least_start : (g : List (List ℕ)) (cyclic : List Bool) (start : ℕ) → TellsCycles g cyclic → IsFirst (λ k. IsTrue (get_or cyclic k false)) (length cyclic) (Some start) → IsLeastOnCycle g start
least_start g cyclic start tells first = record {
  is = (tells.right start (omega (arith, tells.for_each, first.0))).0 first.1;
  first = λ s lt cycle. first.2 s lt ((tells.right s (leads_node g s cycle.1.0 cycle.1.1)).1 cycle);
}

pub none_cyclic : (g : List (List ℕ)) (cyclic : List Bool) → TellsCycles g cyclic → IsFirst (λ k. IsTrue (get_or cyclic k false)) (length cyclic) None → (s : ℕ) → OnCycle g s → ⊥
none_cyclic g cyclic tells none s cycle =
    let lt = leads_node g s cycle.1.0 cycle.1.1 in
    none s (omega (arith, tells.for_each)) ((tells.right s lt).1 cycle)

-- numbers cut at a limit

cut_large : (n need limit : ℕ) → n ≡ min need limit → limit ≤ n → limit ≤ need
cut_large n need limit is le = omega arith

cut_small : (n need limit : ℕ) → n ≡ min need limit → (limit ≤ n → ⊥) → need < limit
cut_small n need limit is small = by_size (cases_lt n limit)
  where
    by_size : (n < limit) ⊎ (limit ≤ n) → need < limit
    by_size (inl lt) = omega arith
    by_size (inr le) = absurd (small le)

cut_same : (n need limit : ℕ) → n ≡ min need limit → need < limit → n ≡ need
cut_same n need limit is lt = omega arith

pub too_large : (terms : List (List Term)) (needs : List ℕ) (s : ℕ) → IsClosed (graph_of terms) → ((u : ℕ) → OnCycle (graph_of terms) u → ⊥) → length needs ≡ length terms → AreCutNeeds terms needs → IsFirst (λ k. limit ≤ get_or needs k 0) (length needs) (Some s) → IsTooLarge terms s
too_large terms needs s closed acyclic size cut first = record {
  acyclic = acyclic;
  need = least_of terms;
  are = are;
  below = subst (λ n. s < n) size first.0;
  large = cut_large (get_or needs s 0) (least_of terms s) limit (cut (least_of terms) are.meets s (subst (λ n. s < n) size first.0)) first.1;
  first = λ u lt. cut_small (get_or needs u 0) (least_of terms u) limit (cut (least_of terms) are.meets u (before u s (length needs) (length terms) lt first.0 size)) (first.2 u lt);
}
  where
    are : AreNeeds terms (least_of terms)
    are = there_are terms closed acyclic

    before : (u s m n : ℕ) → u < s → s < m → m ≡ n → u < n
    before u s m n lt below same = omega arith

pub all_small : (terms : List (List Term)) (needs : List ℕ) → IsClosed (graph_of terms) → ((u : ℕ) → OnCycle (graph_of terms) u → ⊥) → length needs ≡ length terms → AreCutNeeds terms needs → IsFirst (λ k. limit ≤ get_or needs k 0) (length needs) None → AreSmallNeeds terms needs
all_small terms needs closed acyclic size cut none = record {
  acyclic = acyclic;
  for_each = size;
  are = record {
    meets = λ s lt. same s lt ∙ are.meets s lt ∙ largest_same (least_of terms) (λ t. get_or needs t 0) (terms_of terms s) (λ t at. sym (same t (target_below terms s t closed at)));
    least = λ other enough s lt. subst (λ n. n ≤ other s) (sym (same s lt)) (are.least other enough s lt);
  };
  small = λ s lt. subst (λ n. n < limit) (sym (same s lt)) (need_small s lt);
}
  where
    are : AreNeeds terms (least_of terms)
    are = there_are terms closed acyclic

    within : (s m n : ℕ) → s < m → n ≡ m → s < n
    within s m n lt same = omega arith

    need_small : (s : ℕ) → s < length terms → least_of terms s < limit
    need_small s lt = cut_small (get_or needs s 0) (least_of terms s) limit (cut (least_of terms) are.meets s lt) (none s (within s (length terms) (length needs) lt size))

    same : (s : ℕ) → s < length terms → get_or needs s 0 ≡ least_of terms s
    same s lt = cut_same (get_or needs s 0) (least_of terms s) limit (cut (least_of terms) are.meets s lt) (need_small s lt)
