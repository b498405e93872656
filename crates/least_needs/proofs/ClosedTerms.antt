-- The graph of terms: the targets of a statement, one statement more, and when all targets are statements.
use Rattle.std.proofs.Common.{◌≡◌, ◌↔◌, ◌⊎◌, inl, inr, ℕ, zero, suc, ◌+◌, ◌-◌, ◌<◌, ◌≤◌, List, [], ◌∷◌, ◌++◌, length, get_or, take, drop, refl, sym, ap, subst, ◌∙◌, arith, length-drop}
use Rattle.std.specs.Prelude.{slice_range}
use Rattle.std.specs.List.{All}
use Rattle.std.proofs.lemmas.List.{length-map, length-take-le, get_or-take, get_or-drop, take_more}
use Rattle.std.proofs.lemmas.Bool.{cases_lt}
use Rattle.graph_cycles.specs.Graph.{targets_of, IsClosed}
use Rattle.least_needs.specs.declared.terms.Term.{Term}
use Rattle.least_needs.specs.Rows.{rows, EndAt}
use Rattle.least_needs.specs.Terms.{AreBelow, listed, all_targets, graph_of, terms_of}
use Rattle.least_needs.proofs.Bounds.{below_term, below_contained, below_both, below_targets}
use Rattle.least_needs.proofs.RowLaws.{length-rows, start_within}

pub targets_in : (terms : List (List Term)) (s : ℕ) → targets_of (graph_of terms) s ≡ all_targets (terms_of terms s)
targets_in [] s = refl
targets_in (ts ∷ terms) zero = refl
targets_in (ts ∷ terms) (suc s) = targets_in terms s

pub length-graph : (terms : List (List Term)) → length (graph_of terms) ≡ length terms
length-graph terms = length-map terms all_targets

-- one statement more of the graph
pub graph_more : (terms : List (List Term)) (i : ℕ) (g : List (List ℕ)) (ts : List ℕ) → i < length terms → g ≡ take i (graph_of terms) → ts ≡ all_targets (terms_of terms i) → g ++ ts ∷ [] ≡ take (i + 1) (graph_of terms)
graph_more terms i g ts lt is same =
    let within : i < length (graph_of terms) = omega (arith, length-graph terms) in
    let row : ts ≡ targets_of (graph_of terms) i = same ∙ sym (targets_in terms i) in
    rw (is, row) (sym (take_more (graph_of terms) i [] within))

-- terms whose targets are below a bound

abbrev EachBelow : ℕ → List Term → Type 0
EachBelow n xs = All (λ x. AreBelow n (listed x.targets)) xs

all_below : (n : ℕ) (xs : List Term) → EachBelow n xs → AreBelow n (all_targets xs)
all_below n [] each = tt
all_below n (x ∷ xs) each = below_both n (listed x.targets) (all_targets xs) (each 0 x (omega arith)) (all_below n xs (λ k d lt. each (suc k) d (omega arith)))

part_below : (n : ℕ) (items : List Term) (start end : ℕ) → end ≤ length items → EachBelow n items → EachBelow n (slice_range items start end)
part_below n items start end within each k d lt =
    let size : length (slice_range items start end) ≡ end - start = length-take-le (end - start) (drop start items) (omega (arith, length-drop start items)) in
    let place : k < end - start = omega arith in
    let same : get_or (slice_range items start end) k d ≡ get_or items (start + k) d = get_or-take (end - start) (drop start items) k d place ∙ get_or-drop start items k d in
    subst (λ x. AreBelow n (listed x.targets)) (sym same) (each (start + k) d (omega arith))

there : (n start : ℕ) (ends : List ℕ) (items : List Term) → EndAt start ends (length items) → EachBelow n items → (s : ℕ) → AreBelow n (targets_of (graph_of (rows start ends items)) s)
there n start [] items at each s = tt
there n start (end ∷ ends) items at each zero = all_below n (slice_range items start end) (part_below n items start end (start_within end ends (length items) at.1) each)
there n start (end ∷ ends) items at each (suc s) = there n end ends items at.1 each s

back : (n start : ℕ) (ends : List ℕ) (items : List Term) → EndAt start ends (length items) → ((s : ℕ) → AreBelow n (targets_of (graph_of (rows start ends items)) s)) → (k : ℕ) (d : Term) → start ≤ k → k < length items → AreBelow n (listed (get_or items k d).targets)
back n start [] items at each k d le lt = absurd (omega (arith, at))
back n start (end ∷ ends) items at each k d le lt = by_end (cases_lt k end) (back n end ends items at.1 (λ s. each (suc s)) k d)
  where
    by_end : (k < end) ⊎ (end ≤ k) → (end ≤ k → k < length items → AreBelow n (listed (get_or items k d).targets)) → AreBelow n (listed (get_or items k d).targets)
    by_end (inl before) later =
        let i = k - start in
        let within : end ≤ length items = start_within end ends (length items) at.1 in
        let size : length (slice_range items start end) ≡ end - start = length-take-le (end - start) (drop start items) (omega (arith, length-drop start items)) in
        let place : i < end - start = omega arith in
        let at_place : start + i ≡ k = omega arith in
        let same : get_or (slice_range items start end) i d ≡ get_or items k d = get_or-take (end - start) (drop start items) i d place ∙ get_or-drop start items i d ∙ ap (λ p. get_or items p d) at_place in
        subst (λ x. AreBelow n (listed x.targets)) same (below_term n (slice_range items start end) i d (each 0) (omega arith))
    by_end (inr behind) later = later behind lt

-- all targets are statements if and only if those of all terms are
pub closed_terms : (ends : List ℕ) (items : List Term) (terms : List (List Term)) → EndAt 0 ends (length items) → rows 0 ends items ≡ terms → EachBelow (length ends) items ↔ IsClosed (graph_of terms)
closed_terms ends items terms at is = subst (λ x. EachBelow (length ends) items ↔ IsClosed (graph_of x)) is (closes, opens)
  where
    size : length (graph_of (rows 0 ends items)) ≡ length ends
    size = length-graph (rows 0 ends items) ∙ length-rows 0 ends items

    closes : EachBelow (length ends) items → IsClosed (graph_of (rows 0 ends items))
    closes each = record { targets = λ s t leads. let lt = below_contained (length ends) (targets_of (graph_of (rows 0 ends items)) s) t (there (length ends) 0 ends items at each s) leads in omega (arith, size) }

    opens : IsClosed (graph_of (rows 0 ends items)) → EachBelow (length ends) items
    opens closed k d lt = back (length ends) 0 ends items at (λ s. subst (λ n. AreBelow n (targets_of (graph_of (rows 0 ends items)) s)) size (below_targets (graph_of (rows 0 ends items)) s closed)) k d (omega arith) lt
