-- A graph's targets as one list: how long the list of lists is, one of its lists, and one more at its end.
use Rattle.std.proofs.Common.{◌≡◌, ◌↔◌, ℕ, zero, suc, ◌+◌, ◌-◌, ◌<◌, ◌≤◌, ◌⊎◌, inl, inr, List, [], ◌∷◌, ◌++◌, length, take, drop, get_or, refl, sym, ap, subst, ◌∙◌, arith, length-drop}
use Rattle.std.specs.Prelude.{slice_range}
use Rattle.std.proofs.lemmas.List.{drop_at, drop-append-le, take-append-le, take_all, get_or-take, get_or-drop, get_or_default, length-take-le}
use Rattle.std.specs.List.{Contains}
use Rattle.std.proofs.lemmas.Bool.{cases_lt}
use Rattle.graph_cycles.specs.Graph.{Leads, LeadsBelow, IsClosed}
use Rattle.graph_cycles.specs.Rows.{rows, EndAt}

pub length-rows : (start : ℕ) (ends targets : List ℕ) → length (rows start ends targets) ≡ length ends
length-rows start [] targets = refl
length-rows start (end ∷ ends) targets = ap suc (length-rows end ends targets)

pub row_at : (start : ℕ) (ends targets : List ℕ) (n : ℕ) → n < length ends → slice_range targets (get_or (start ∷ ends) n 0) (get_or ends n 0) ≡ get_or (rows start ends targets) n []
row_at start [] targets n lt = absurd (omega arith)
row_at start (end ∷ ends) targets zero lt = refl
row_at start (end ∷ ends) targets (suc n) lt = row_at end ends targets n (omega arith)

pub start_within : (start : ℕ) (ends : List ℕ) (total : ℕ) → EndAt start ends total → start ≤ total
start_within start [] total at = omega (arith, at)
start_within start (end ∷ ends) total at = omega (arith, at.0, start_within end ends total at.1)

pub row_rises : (start : ℕ) (ends : List ℕ) (total n : ℕ) → EndAt start ends total → n < length ends → get_or (start ∷ ends) n 0 ≤ get_or ends n 0
row_rises start [] total n at lt = absurd (omega arith)
row_rises start (end ∷ ends) total zero at lt = at.0
row_rises start (end ∷ ends) total (suc n) at lt = row_rises end ends total n at.1 (omega arith)

pub row_within : (start : ℕ) (ends : List ℕ) (total n : ℕ) → EndAt start ends total → n < length ends → get_or ends n 0 ≤ total
row_within start [] total n at lt = absurd (omega arith)
row_within start (end ∷ ends) total zero at lt = start_within end ends total at.1
row_within start (end ∷ ends) total (suc n) at lt = row_within end ends total n at.1 (omega arith)

-- one list more

pub EndAt-push : (start : ℕ) (ends : List ℕ) (total end more : ℕ) → EndAt start ends total → total ≤ end → end ≡ more → EndAt start (ends ++ end ∷ []) more
EndAt-push start [] total end more at le is = (omega (arith, at), is)
EndAt-push start (first ∷ ends) total end more at le is = (at.0, EndAt-push first ends total end more at.1 le is)

slice_range-append : (targets added : List ℕ) (start end : ℕ) → start ≤ end → end ≤ length targets → slice_range (targets ++ added) start end ≡ slice_range targets start end
slice_range-append targets added start end le within =
    ap (take (end - start)) (drop-append-le start targets added (omega arith))
    ∙ take-append-le (end - start) (drop start targets) added (omega (arith, length-drop start targets))

slice_range-added : (targets added : List ℕ) (end : ℕ) → end ≡ length targets + length added → slice_range (targets ++ added) (length targets) end ≡ added
slice_range-added targets added end is =
    ap (take (end - length targets)) (drop_at targets added (length targets) refl)
    ∙ take_all (end - length targets) added (omega arith)

pub rows-push : (start : ℕ) (ends targets added : List ℕ) (end : ℕ) → EndAt start ends (length targets) → end ≡ length targets + length added → rows start (ends ++ end ∷ []) (targets ++ added) ≡ rows start ends targets ++ added ∷ []
rows-push start [] targets added end at is = rw at (ap (λ row. row ∷ []) (slice_range-added targets added end is))
rows-push start (first ∷ ends) targets added end at is =
    rw (slice_range-append targets added start first at.0 (start_within first ends (length targets) at.1))
    (ap (λ more. slice_range targets start first ∷ more) (rows-push first ends targets added end at.1 is))

-- the targets of all nodes are those of the one list

part_at : (targets : List ℕ) (start end k d : ℕ) → k < end - start → get_or (slice_range targets start end) k d ≡ get_or targets (start + k) d
part_at targets start end k d lt = get_or-take (end - start) (drop start targets) k d lt ∙ get_or-drop start targets k d

length-part : (targets : List ℕ) (start end : ℕ) → end ≤ length targets → length (slice_range targets start end) ≡ end - start
length-part targets start end le = length-take-le (end - start) (drop start targets) (omega (arith, length-drop start targets))

-- a target of a node stands in the list
pub in_list : (start : ℕ) (ends targets : List ℕ) (s t : ℕ) → EndAt start ends (length targets) → Leads (rows start ends targets) s t → Contains targets t
in_list start [] targets s t at leads = absurd (omega (arith, leads.1))
in_list start (end ∷ ends) targets zero t at leads =
    let size = length-part targets start end (start_within end ends (length targets) at.1) in
    let k = leads.0 in
    let lt : k < end - start = omega (arith, leads.1) in
    (start + k, omega (arith, start_within end ends (length targets) at.1), sym (part_at targets start end k t lt) ∙ leads.2)
in_list start (end ∷ ends) targets (suc s) t at leads = in_list end ends targets s t at.1 leads

-- and each place of the list from the start on is one of a node's targets
pub in_row : (start : ℕ) (ends targets : List ℕ) (k : ℕ) → EndAt start ends (length targets) → start ≤ k → k < length targets → (s : ℕ) × Leads (rows start ends targets) s (get_or targets k 0)
in_row start [] targets k at le lt = absurd (omega (arith, at))
in_row start (end ∷ ends) targets k at le lt = by_end (cases_lt k end) (in_row end ends targets k at.1)
  where
    by_end : (k < end) ⊎ (end ≤ k) → (end ≤ k → k < length targets → (s : ℕ) × Leads (rows end ends targets) s (get_or targets k 0)) → (s : ℕ) × Leads (rows start (end ∷ ends) targets) s (get_or targets k 0)
    by_end (inl before) later =
        let t = get_or targets k 0 in
        let i = k - start in
        let place : start + i ≡ k = omega arith in
        let size = length-part targets start end (start_within end ends (length targets) at.1) in
        let same : get_or (slice_range targets start end) i t ≡ t = part_at targets start end i t (omega arith) ∙ ap (λ p. get_or targets p t) place ∙ get_or_default targets k t 0 lt in
        (0, (i, omega arith, same))
    by_end (inr behind) later = let rest = later behind lt in (suc rest.0, rest.1)

-- all targets are nodes if and only if all numbers of the list are below their number
pub closed_list : (ends targets : List ℕ) (g : List (List ℕ)) → EndAt 0 ends (length targets) → rows 0 ends targets ≡ g → ((k : ℕ) → k < length targets → get_or targets k 0 < length ends) ↔ IsClosed g
closed_list ends targets g at is = subst (λ x. ((k : ℕ) → k < length targets → get_or targets k 0 < length ends) ↔ IsClosed x) is (λ below. record { targets = there below }, λ closed. back closed.targets)
  where
    there : ((k : ℕ) → k < length targets → get_or targets k 0 < length ends) → LeadsBelow (length (rows 0 ends targets)) (rows 0 ends targets)
    there below s t leads =
        let at_place = in_list 0 ends targets s t at leads in
        let same = get_or_default targets at_place.0 0 t at_place.1 ∙ at_place.2 in
        omega (arith, below at_place.0 at_place.1, length-rows 0 ends targets)

    back : LeadsBelow (length (rows 0 ends targets)) (rows 0 ends targets) → (k : ℕ) → k < length targets → get_or targets k 0 < length ends
    back closed k lt =
        let row = in_row 0 ends targets k at (omega arith) lt in
        omega (arith, closed row.0 _ row.1, length-rows 0 ends targets)
