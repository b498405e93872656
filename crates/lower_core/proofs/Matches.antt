-- Ways through the match of an enum: which variant, how many steps, how far ap moves.
use Rattle.std.proofs.Common.{◌≡◌, ◌≢◌, ℕ, zero, suc, ◌+◌, ◌-◌, ◌*◌, ◌<◌, ◌≤◌, min, nat_le, Bool, true, false, if◌then◌else◌, Option, Some, List, [], refl, sym, ap, ◌∙◌, subst, inl, inr, arith}
use Rattle.std.proofs.lemmas.Bool.{lt-leb}
use Rattle.felt64.specs.Field.{modulus, sum, difference}
use Rattle.casm_word.specs.declared.cell_expr.CellExpr.{CellExpr}
use Rattle.casm_steps.specs.Reading.{both}
use Rattle.frag_code.specs.Evaluation.{Tally, Evaluation, nothing, step_by, step_on}
use Rattle.frag_code.specs.Form.{has_jump}
use Rattle.cell_terms.specs.declared.term.Slot.{Slot}
use Rattle.cell_terms.specs.declared.term.Slot.TheVariants as slots
use Rattle.cell_terms.specs.declared.term.Second.TheVariants as seconds
use Rattle.cell_terms.specs.declared.term.Term.TheVariants as terms
use Rattle.frag_plan.specs.Plan.{exit, flatten, fragment, asks_met}
use Rattle.cost_table.specs.Results.{moved}
use Rattle.cost_table.specs.Rows.{row, free, match_row}
use Rattle.cost_table.specs.Terms.{known_change}
use Rattle.frag_plan.specs.AtBegin.{slot_at}
use Rattle.lower_kit.specs.Small.{IsSmallSlot, IsSmallPlan}
use Rattle.lower_kit.proofs.Ways.{scene, Way, one_word, way_of, laid_same}
use Rattle.lower_core.specs.Data.{matches, match_plan}

match_row_more : (more k : ℕ) → match_row (suc (suc more)) k ≡ row (2 + 2 * min k more) 0 (min k more)
match_row_more more k =
    let less : suc (suc more) - 2 ≡ more = omega arith in
    ap (λ b. if b then free else row (2 + 2 * min k (suc (suc more) - 2)) 0 (min k (suc (suc more) - 2))) (lt-leb (suc (suc more)) 1 (omega arith))
    ∙ ap (λ x. row (2 + 2 * min k x) 0 (min k x)) less

module _ (m : ℕ → Option ℕ) (ap_ fp : ℕ) (args : List CellExpr) where
  -- the match from variant i on, of a cell that has this word
  record Matched (i more w : ℕ) (t : Tally) (k : ℕ) (end : Tally) : Type 0 where
    low : i ≤ k
    right : w < modulus → w ≤ more + 1 → k ≡ i + w
    steps : end.steps ≡ t.steps + 2 + 2 * min (k - i) more
    change : end.change ≡ t.change + min (k - i) more
    named : end.named ≡ t.named

  matched_here : (i more w : ℕ) (t : Tally) (k : ℕ) (end : Tally) → w ≡ 0 → (k ≡ i) × (end ≡ step_on (step_on t)) → Matched i more w t k end
  matched_here i more w t k end none at_end =
      let steps : end.steps ≡ t.steps + 1 + 1 = ap (λ u. u.steps) at_end.1 in
      let change : end.change ≡ t.change = ap (λ u. u.change) at_end.1 in
      let first : k - i ≡ 0 = omega (arith, at_end.0) in
      let least : min (k - i) more ≡ 0 = ap (λ x. min x more) first ∙ omega arith in
      record {
        low = omega (arith, at_end.0);
        right = λ small few. omega (arith, none, at_end.0);
        steps = omega (arith, steps, least);
        change = omega (arith, change, least);
        named = ap (λ u. u.named) at_end.1;
      }

  matched : (cell : Slot) (i more : ℕ) (t : Tally) (k : ℕ) (end : Tally) (w : ℕ) → t.change ≡ i → slot_at m ap_ fp args cell ≡ Some w
      → Way m ap_ fp args true (matches cell i more) t k end → Matched i more w t k end
  matched cell i zero t k end w at is (here, inl none) = matched_here i zero w t k end (one_word (slot_at m ap_ fp args cell) w ((scene m ap_ fp args).w cell) is here ∙ none.0) none.1
  matched cell i zero t k end w at is (here, inr other) =
      let same = one_word (slot_at m ap_ fp args cell) w ((scene m ap_ fp args).w cell) is here in
      let some : w ≢ 0 = λ none. other.0 (sym same ∙ none) in
      let steps : end.steps ≡ t.steps + 1 + 1 = ap (λ u. u.steps) other.1.1 in
      let change : end.change ≡ t.change = ap (λ u. u.change) other.1.1 in
      let least : min (k - i) 0 ≡ 0 = omega arith in
      record {
        low = omega (arith, other.1.0);
        right = λ small few. omega (arith, some, few, other.1.0);
        steps = omega (arith, steps, least);
        change = omega (arith, change, least);
        named = ap (λ u. u.named) other.1.1;
      }
  matched cell i (suc more) t k end w at is (here, inl none) =
      matched_here i (suc more) w t k end (one_word (slot_at m ap_ fp args cell) w ((scene m ap_ fp args).w cell) is here ∙ none.0) none.1
  matched cell i (suc more) t k end w at is (here, inr other) =
      let same = one_word (slot_at m ap_ fp args cell) w ((scene m ap_ fp args).w cell) is here in
      let some : w ≢ 0 = λ none. other.0 (sym same ∙ none) in
      let next : slot_at m ap_ fp args (slots.Own i) ≡ Some (difference w 1) =
      ap (λ n. m (sum ap_ n)) (sym at) ∙ laid_same m ap_ fp args t.change (terms.Sub cell (seconds.Number 1)) other.1.0 ∙ ap (λ o. both difference o (Some 1)) is in
      let rest = matched (slots.Own i) (i + 1) more (step_by 1 (step_on t)) k end (difference w 1) (omega (arith, at)) next other.1.1 in
      let low = rest.low in
      let more_ : min (k - i) (suc more) ≡ 1 + min (k - (i + 1)) more = omega (arith, low) in
      record {
        low = omega (arith, low);
        right = λ small few.
            let less : difference w 1 ≡ w - 1 = omega (arith, some, small) in
            let at_rest = rest.right (omega (arith, less, small)) (omega (arith, less, few)) in
            omega (arith, at_rest, less, some);
        steps = let steps = rest.steps in omega (arith, steps, more_);
        change = let change = rest.change in omega (arith, change, more_);
        named = rest.named;
      }

  first_listed : (cell : Slot) (i more : ℕ) (t : Tally) (k : ℕ) (end : Tally) → Way m ap_ fp args true (matches cell i more) t k end → slot_at m ap_ fp args cell ≡ Some ((scene m ap_ fp args).w cell)
  first_listed cell i zero t k end way = way.0
  first_listed cell i (suc more) t k end way = way.0

  pub matches_jump : (cell : Slot) (i more d j : ℕ) → has_jump (flatten args d j (matches cell i more)) ≡ true
  matches_jump cell i zero d j = refl
  matches_jump cell i (suc more) d j = refl

  -- an evaluation of a match of so many variants
  pub record MatchEnds (n k : ℕ) (end : Tally) : Type 0 where
    pub steps : end.steps ≡ (match_row n k).steps
    pub change : end.change ≡ known_change (match_row n k).ap
    pub named : end.named ≡ []
    pub right : (w : ℕ) → slot_at m ap_ fp args (slots.Arg 0) ≡ Some w → w < modulus → w < n → k ≡ w

  pub match_ends : (n k : ℕ) (end : Tally) → Evaluation (fragment args (match_plan n)) m ap_ fp k end → MatchEnds n k end
  match_ends zero k end evaluation =
      let last = way_of m ap_ fp args (exit 0) k end evaluation in
      record {
        steps = ap (λ u. u.steps) last.1;
        change = ap (λ u. u.change) last.1;
        named = ap (λ u. u.named) last.1;
        right = λ w is small few. absurd (omega (arith, few));
      }
  match_ends (suc zero) k end evaluation =
      let last = way_of m ap_ fp args (exit 0) k end evaluation in
      record {
        steps = ap (λ u. u.steps) last.1;
        change = ap (λ u. u.change) last.1;
        named = ap (λ u. u.named) last.1;
        right = λ w is small few. omega (arith, last.0, few);
      }
  match_ends (suc (suc more)) k end evaluation =
      let plan = matches (slots.Arg 0) 0 more in
      let way = subst (λ jumps. Way m ap_ fp args jumps plan nothing k end) (matches_jump (slots.Arg 0) 0 more 0 0) (way_of m ap_ fp args plan k end evaluation) in
      let listed = first_listed (slots.Arg 0) 0 more nothing k end way in
      let found = matched (slots.Arg 0) 0 more nothing k end ((scene m ap_ fp args).w (slots.Arg 0)) refl listed way in
      let row_ = match_row_more more k in
      let steps = found.steps in
      let change = found.change in
      record {
        steps = omega (arith, steps) ∙ sym (ap (λ r. r.steps) row_);
        change = omega (arith, change) ∙ sym (ap (λ r. known_change r.ap) row_);
        named = found.named;
        right = λ w is small few.
            let same = one_word (slot_at m ap_ fp args (slots.Arg 0)) ((scene m ap_ fp args).w (slots.Arg 0)) w listed is in
            let at_end = found.right (omega (arith, same, small)) (omega (arith, same, few)) in
            omega (arith, at_end, same);
      }

matches_met : (cell : Slot) (i more : ℕ) → asks_met (matches cell i more) ≡ true
matches_met cell i zero = refl
matches_met cell i (suc more) = matches_met (slots.Own i) (i + 1) more

pub match_met : (n : ℕ) → asks_met (match_plan n) ≡ true
match_met zero = refl
match_met (suc zero) = refl
match_met (suc (suc more)) = matches_met (slots.Arg 0) 0 more

matches_small : (cell : Slot) (i more : ℕ) → IsSmallSlot i cell → IsSmallPlan i (matches cell i more)
matches_small cell i zero small = (small, tt, tt)
matches_small cell i (suc more) small = (small, tt, ((small, tt), matches_small (slots.Own i) (i + 1) more (omega arith, omega arith)))

pub match_small : (n : ℕ) → IsSmallPlan 0 (match_plan n)
match_small zero = tt
match_small (suc zero) = tt
match_small (suc (suc more)) = matches_small (slots.Arg 0) 0 more (omega arith)

pub match_checks : (n k : ℕ) → (match_row n k).checks ≡ 0
match_checks n k = by_cases (nat_le n 1) where
  by_cases : (b : Bool) → (if b then free else row (2 + 2 * min k (n - 2)) 0 (min k (n - 2))).checks ≡ 0
  by_cases true = refl
  by_cases false = refl

pub match_moves : (n k : ℕ) → known_change (match_row n k).ap ≤ n
match_moves n k = by_cases (nat_le n 1) where
  by_cases : (b : Bool) → known_change (if b then free else row (2 + 2 * min k (n - 2)) 0 (min k (n - 2))).ap ≤ n
  by_cases true = omega arith
  by_cases false = omega arith

-- how far ap moves is known
pub match_moved : (n k cells : ℕ) → moved (match_row n k).ap cells ≡ known_change (match_row n k).ap
match_moved n k cells = by_cases (nat_le n 1) where
  by_cases : (b : Bool) → moved (if b then free else row (2 + 2 * min k (n - 2)) 0 (min k (n - 2))).ap cells ≡ known_change (if b then free else row (2 + 2 * min k (n - 2)) 0 (min k (n - 2))).ap
  by_cases true = refl
  by_cases false = refl

-- how far ap moves, where there is such a variant
pub match_least : (n k : ℕ) → k < n → known_change (match_row n k).ap ≡ min k (n - 2)
match_least zero k within = absurd (omega (arith, within))
match_least (suc zero) k within = let none : k ≡ 0 = omega (arith, within) in omega (arith, none)
match_least (suc (suc more)) k within =
    let same : more ≡ suc (suc more) - 2 = omega arith in
    ap (λ r. known_change r.ap) (match_row_more more k) ∙ ap (λ n. min k n) same
