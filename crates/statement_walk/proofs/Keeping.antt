-- What is kept along flows holds of all environments of a walk.
use Rattle.std.proofs.Common.{◌≡◌, ℕ, zero, suc, ◌+◌, ◌<◌, ◌≤◌, [], ◌∷◌, length, set, Some, Ok, refl, sym, ap, subst, ◌∙◌, arith, inl, inr}
use Rattle.std.specs.List.{slice_get}
use Rattle.std.proofs.lemmas.Bool.{cases_eq}
use Rattle.std.proofs.lemmas.Option.{none-some, same_Some, some_pair_parts}
use Rattle.statement_walk.specs.Rules.{Rules, Lawful}
use Rattle.statement_walk.specs.Keeps.{Keeps}
use Rattle.statement_walk.specs.Walk.{Seen, unseen, waiting, done, Trace, State, given, held_by, done_in, go, after}
use Rattle.statement_walk.proofs.Deliveries.{deliver_keeps, given-written, given-others}
use Rattle.statement_walk.proofs.Left.{weigh, weigh-set}
use Rattle.statement_walk.proofs.Settled.{Settled, settled-start, settled-turn, after_keeps, nothing_given, given-marked, marked, begun, statement_within}
use Rattle.statement_walk.proofs.Turns.{Happens, delivers, enters}

abbrev done_at : {E : Type 0} → Seen E → ℕ
done_at unseen = 0
done_at (waiting f e) = 0
done_at (done f e) = 1

done_in-weigh : {E : Type 0} (u : Trace E) → done_in u ≡ weigh done_at u
done_in-weigh [] = refl
done_in-weigh (unseen ∷ u) = omega (arith, done_in-weigh u)
done_in-weigh (waiting f e ∷ u) = omega (arith, done_in-weigh u)
done_in-weigh (done f e ∷ u) = omega (arith, done_in-weigh u)

done_in-set : {E : Type 0} (u : Trace E) (t : ℕ) (y z : Seen E) → slice_get u t ≡ Some y → done_in (set u t z) + done_at y ≡ done_in u + done_at z
done_in-set u t y z here = omega (arith, done_in-weigh u, done_in-weigh (set u t z), weigh-set done_at u t y z here)

done_at_most : {E : Type 0} (u : Trace E) → done_in u ≤ length u
done_at_most [] = omega arith
done_at_most (unseen ∷ u) = omega (arith, done_at_most u)
done_at_most (waiting g d ∷ u) = omega (arith, done_at_most u)
done_at_most (done g d ∷ u) = omega (arith, done_at_most u)

-- a statement that waits is not done
pub few_done : {E : Type 0} (u : Trace E) (t f : ℕ) (e : E) → slice_get u t ≡ Some (waiting f e) → done_in u < length u
few_done [] t f e here = absurd (none-some _ here)
few_done (unseen ∷ u) zero f e here = let bad = same_Some _ _ here in cc
few_done (unseen ∷ u) (suc t) f e here = omega (arith, few_done u t f e here)
few_done (waiting g d ∷ u) t f e here = omega (arith, done_at_most u)
few_done (done g d ∷ u) zero f e here = let bad = same_Some _ _ here in cc
few_done (done g d ∷ u) (suc t) f e here = omega (arith, few_done u t f e here)

-- what each environment is, with so many statements done
abbrev pub AllValid : {E : Type 0} → (ℕ → ℕ → E → Type 0) → ℕ → Trace E → Type 0
AllValid {E} Valid n u = (s f : ℕ) (e : E) → given u s ≡ Some (f, e) → Valid n s e

written_valid : {E : Type 0} (Valid : ℕ → ℕ → E → Type 0) (n : ℕ) (u : Trace E) (t f : ℕ) (e : E) → slice_get u t ≡ Some unseen → Valid n t e → AllValid Valid n u → AllValid Valid n (set u t (waiting f e))
written_valid Valid n u t f e here valid all q g d is =
    elim (cases_eq q t) [
      | inl same ↦
          let parts = some_pair_parts f g e d (sym (given-written u t f e unseen here) ∙ ap (given (set u t (waiting f e))) (sym same) ∙ is) in
          rw same (subst (Valid n t) parts.1 valid)
      | inr other ↦ all q g d (sym (given-others u t q (waiting f e) other) ∙ is)
    ]

valid_turn : {E F : Type 0} (r : Rules E F) → Lawful r → (Valid : ℕ → ℕ → E → Type 0) → Keeps r Valid → (w v : State E) → Settled r w → AllValid Valid (done_in w.trace) w.trace → Happens r w (go v) → AllValid Valid (done_in v.trace) v.trace
valid_turn {E} r lawful Valid keeps w v settled all (delivers trace d) =
    let n = done_in w.trace in
    let within = statement_within r w (Ok trace) settled.sized d in
    let counted : done_in (marked r w (Ok trace) d) ≡ n + 1 = omega (arith, done_in-set w.trace d.statement (waiting d.function d.env) (done d.function d.env) d.waits) in
    let here = all d.statement d.function d.env (ap held_by d.waits) in
    let begin : AllValid Valid (n + 1) (marked r w (Ok trace) d) = λ q g e is. keeps.stays n q e (all q g e (sym (given-marked w.trace d.statement q d.function d.env d.waits) ∙ is)) in
    let both = deliver_keeps r lawful (λ (u : Trace E). (done_in u ≡ n + 1) × AllValid Valid (n + 1) u) d.function d.statement (r.flow d.function d.statement d.env) (marked r w (Ok trace) d) trace
    (λ k t e u at free sofar. (
      omega (arith, sofar.0, done_in-set u t unseen (waiting d.function e) free),
      written_valid Valid (n + 1) u t d.function e free (keeps.flows k n d.function d.statement t d.env e within here at) sofar.1,
    ))
    (counted, begin) d.gives in
    rw both.0 both.1
valid_turn r lawful Valid keeps w v settled all (enters d) =
    let n = done_in w.trace in
    let same : done_in (begun r w d) ≡ n = omega (arith, done_in-set w.trace d.statement unseen (waiting w.turn d.env) d.there) in
    rw same (written_valid Valid n w.trace d.statement w.turn d.env d.there (from_start n (keeps.begins w.turn d.statement d.env d.next)) all)
  where
    from_start : (n : ℕ) → Valid 0 d.statement d.env → Valid n d.statement d.env
    from_start zero valid = valid
    from_start (suc n) valid = subst (λ m. Valid m d.statement d.env) {y = suc n} (omega arith) (keeps.stays n d.statement d.env (from_start n valid))

pub walk_keeps : {E F : Type 0} (r : Rules E F) → Lawful r → (Valid : ℕ → ℕ → E → Type 0) → Keeps r Valid → (n : ℕ) → AllValid Valid (done_in (after r n).trace) (after r n).trace
walk_keeps {E} r lawful Valid keeps n =
    (after_keeps r (λ (w : State E). Settled r w × AllValid Valid (done_in w.trace) w.trace)
    (settled-start r, λ s f e is. absurd (nothing_given r.size s (f, e) is))
    (λ w v here turn. (settled-turn r lawful w v here.0 turn, valid_turn r lawful Valid keeps w v here.0 here.1 turn))
    n).1
