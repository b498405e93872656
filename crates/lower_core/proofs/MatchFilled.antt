-- An honest run through a match.
use Rattle.std.proofs.Common.{◌≡◌, ◌≢◌, ℕ, zero, suc, ◌+◌, ◌-◌, ◌<◌, ◌≤◌, min, true, Some, List, ◌∷◌, map, refl, sym, ap, ◌∙◌, subst, inl, inr, arith}
use Rattle.std.specs.FinMap.{get, insert}
use Rattle.std.specs.List.{range_with_len}
use Rattle.felt64.specs.Field.{modulus, sum, difference}
use Rattle.felt64.proofs.FieldLaws.{sum_below}
use Rattle.casm_word.specs.declared.cell_expr.CellExpr.{CellExpr}
use Rattle.casm_steps.specs.Reading.{both}
use Rattle.cell_terms.specs.declared.term.Slot.{Slot}
use Rattle.cell_terms.specs.declared.term.Slot.TheVariants as slots
use Rattle.cell_terms.specs.declared.term.Second.TheVariants as seconds
use Rattle.cell_terms.specs.declared.term.Term.TheVariants as terms
use Rattle.ro_machine.specs.Cells.{Cells}
use Rattle.hint_source.specs.Remembered.{Remembered}
use Rattle.frag_code.specs.Evaluation.{Tally, nothing, step_by, step_on}
use Rattle.frag_plan.specs.AtBegin.{slot_at}
use Rattle.frag_plan.specs.Plan.{exit, fragment}
use Rattle.frag_fills.specs.Filling.{Filled, Filling}
use Rattle.frag_fills.specs.Lines.{Equates, left, PlanFills}
use Rattle.frag_fills.proofs.Lines.{got, plan_filling}
use Rattle.lower_kit.specs.Completing.{IsFree}
use Rattle.lower_kit.proofs.Free.{Grown, free_next, first_free, not_grown, grown_by_one, grown_on, grown_within, contains_first, contains_behind}
use Rattle.lower_kit.proofs.RowsFilled.{given}
use Rattle.lower_core.specs.Data.{matches, match_plan}
use Rattle.lower_core.proofs.Matches.{matches_jump}

module _ (ap_ fp : ℕ) (args : List CellExpr) where
  -- the cells that get a word from ap's change on
  abbrev pub new_cells : ℕ → ℕ → List ℕ
  new_cells i n = map (sum ap_) (range_with_len i n)

  -- the match comes to an exit, over new cells
  pub record MatchFilled (u : Tally) (r : Remembered) (m : Cells) (cells : List ℕ) (go : Filled → Type 0) : Type 0 where
    pub z : Filled
    pub named : z.end.named ≡ u.named
    pub remembers : z.remembered ≡ r
    pub grown : Grown m cells z.cells
    pub goes : go z

  abbrev Goes : Slot → (i more : ℕ) → Tally → Remembered → Cells → ℕ → Filled → Type 0
  Goes cell i more u r m k z = PlanFills ap_ fp args true (matches cell i more) u r m k z

  at_end : (u : Tally) (r : Remembered) (m : Cells) (cells : List ℕ) (go : Filled → Type 0) → go (record { end = step_on (step_on u); remembered = r; cells = m }) → MatchFilled u r m cells go
  at_end u r m cells go goes = record { z = record { end = step_on (step_on u); remembered = r; cells = m }; named = refl; remembers = refl; grown = not_grown m cells; goes = goes }

  match_filled : (cell : Slot) (i more w k : ℕ) (u : Tally) (r : Remembered) (m : Cells) → u.change ≡ i → slot_at (get m) ap_ fp args cell ≡ Some w → w < modulus → w ≤ more + 1 → k ≡ i + w
      → IsFree (get m) (new_cells i (min w more)) → MatchFilled u r m (new_cells i (min w more)) (Goes cell i more u r m k)
  match_filled cell i zero zero k u r m at is small few branch free = at_end u r m _ (Goes cell i zero u r m k) (zero, is, inl (refl, (omega (arith, branch), refl)))
  match_filled cell i zero (suc w) k u r m at is small few branch free =
      let some : suc w ≢ 0 = λ h. omega (arith, h) in
      at_end u r m _ (Goes cell i zero u r m k) (suc w, is, inr (some, (omega (arith, branch, few), refl)))
  match_filled cell i (suc more) zero k u r m at is small few branch free = at_end u r m _ (Goes cell i (suc more) u r m k) (zero, is, inl (refl, (omega (arith, branch), refl)))
  match_filled cell i (suc more) (suc w) k u r m at is small few branch free =
      let some : suc w ≢ 0 = λ h. omega (arith, h) in
      let less : difference (suc w) 1 ≡ w = omega (arith, small) in
      let least : min (suc w) (suc more) ≡ suc (min w more) = omega arith in
      let a = sum ap_ i in
      let rest_cells = new_cells (i + 1) (min w more) in
      let free' : IsFree (get m) (a ∷ rest_cells) = subst (λ n. IsFree (get m) (new_cells i n)) least free in
      let gets = given m a w (omega (arith, small)) (first_free (get m) a rest_cells free') in
      let next : slot_at (get (insert m a w)) ap_ fp args (slots.Own i) ≡ Some w = got m (insert m a w) a w gets in
      let rest = match_filled (slots.Own i) (i + 1) more w k (step_by 1 (step_on u)) r (insert m a w) (omega (arith, at)) next (omega (arith, small)) (omega (arith, few)) (omega (arith, branch))
      (free_next m (insert m a w) a w rest_cells free' gets) in
      let reads : both difference (slot_at (get m) ap_ fp args cell) (Some 1) ≡ Some w = ap (λ o. both difference o (Some 1)) is ∙ ap Some less in
      record {
        z = rest.z;
        named = rest.named;
        remembers = rest.remembers;
        grown = subst (λ n. Grown m (new_cells i n) rest.z.cells) (sym least)
            (grown_on m (insert m a w) rest.z.cells (a ∷ rest_cells) (grown_by_one m (insert m a w) a w (a ∷ rest_cells) gets (sum_below ap_ i) (contains_first a rest_cells))
            (grown_within (insert m a w) rest.z.cells rest_cells (a ∷ rest_cells) (λ b h. contains_behind a b rest_cells h) rest.grown));
        goes = (suc w, is, inr (some, (step_by 1 (step_on u), r, insert m a w, (subst (λ c. Equates ap_ fp args c (terms.Sub cell (seconds.Number 1)) m (insert m a w)) (ap (sum ap_) (sym at)) (left w reads gets), refl, refl), rest.goes)));
      }

  -- so many new cells as the branch has tests behind the first
  abbrev pub match_cells : (n k : ℕ) → List ℕ
  match_cells n k = new_cells 0 (min k (n - 2))

  -- a match of so many variants comes to the exit of the selector's word
  pub matching : (n w : ℕ) (r : Remembered) (m : Cells) → slot_at (get m) ap_ fp args (slots.Arg 0) ≡ Some w → w < modulus → w < n → IsFree (get m) (match_cells n w)
      → MatchFilled nothing r m (match_cells n w) (λ z. Filling (fragment args (match_plan n)) ap_ fp r m w z)
  matching zero w r m is small within free = absurd (omega (arith, within))
  matching (suc zero) w r m is small within free =
      let none : w ≡ 0 = omega (arith, within) in
      let z : Filled = record { end = nothing; remembered = r; cells = m } in
      record { z = z; named = refl; remembers = refl; grown = not_grown m _; goes = plan_filling args (exit 0) ap_ fp w r m z (none, refl) }
  matching (suc (suc more)) w r m is small within free =
      let plan = matches (slots.Arg 0) 0 more in
      let same : suc (suc more) - 2 ≡ more = omega arith in
      let found = match_filled (slots.Arg 0) 0 more w w nothing r m refl is small (omega (arith, within)) (omega arith) (subst (λ n. IsFree (get m) (new_cells 0 (min w n))) same free) in
      let jumps = matches_jump (get m) ap_ fp args (slots.Arg 0) 0 more 0 0 in
      record {
        z = found.z;
        named = found.named;
        remembers = found.remembers;
        grown = subst (λ n. Grown m (new_cells 0 (min w n)) found.z.cells) (sym same) found.grown;
        goes = plan_filling args plan ap_ fp w r m found.z (subst (λ b. PlanFills ap_ fp args b plan nothing r m w found.z) (sym jumps) found.goes);
      }
