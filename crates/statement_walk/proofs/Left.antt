-- How much a walk has left: it falls with each turn.
use Rattle.std.proofs.Common.{◌≡◌, ℕ, zero, suc, ◌+◌, ◌-◌, ◌<◌, ◌≤◌, [], ◌∷◌, length, set, Some, Ok, ap, arith}
use Rattle.std.specs.List.{slice_get}
use Rattle.std.proofs.lemmas.Option.{none-some, same_Some, slice_get_within}
use Rattle.statement_walk.specs.Rules.{Rules, Lawful}
use Rattle.statement_walk.specs.Walk.{Seen, unseen, waiting, done, Trace, State, go}
use Rattle.statement_walk.proofs.Deliveries.{deliver_keeps}
use Rattle.statement_walk.proofs.Settled.{marked}
use Rattle.statement_walk.proofs.Turns.{Happens, delivers, enters}

-- the turns that a statement may still take
abbrev pub left_at : {E : Type 0} → Seen E → ℕ
left_at unseen = 2
left_at (waiting f e) = 1
left_at (done f e) = 0

-- a number of each statement, added up
abbrev pub weigh : {E : Type 0} → (Seen E → ℕ) → Trace E → ℕ
weigh weight [] = 0
weigh weight (y ∷ u) = weight y + weigh weight u

abbrev pub left : {E F : Type 0} → Rules E F → State E → ℕ
left r w = weigh left_at w.trace + (length r.entries - w.turn)

pub weigh-set : {E : Type 0} (weight : Seen E → ℕ) (u : Trace E) (t : ℕ) (y z : Seen E) → slice_get u t ≡ Some y → weigh weight (set u t z) + weight y ≡ weigh weight u + weight z
weigh-set weight [] t y z here = absurd (none-some y here)
weigh-set weight (x ∷ u) zero y z here = omega (arith, ap weight (same_Some x y here))
weigh-set weight (x ∷ u) (suc t) y z here = omega (arith, weigh-set weight u t y z here)

pub left_falls : {E F : Type 0} (r : Rules E F) → Lawful r → (w v : State E) → Happens r w (go v) → left r v < left r w
left_falls {E} r lawful w v (delivers trace d) =
    let falls = weigh-set left_at w.trace d.statement (waiting d.function d.env) (done d.function d.env) d.waits in
    let stays = deliver_keeps r lawful (λ (u : Trace E). weigh left_at u ≤ weigh left_at (marked r w (Ok trace) d)) d.function d.statement (r.flow d.function d.statement d.env) (marked r w (Ok trace) d) trace
    (λ k t e u at free sofar. omega (arith, weigh-set left_at u t unseen (waiting d.function e) free, sofar)) (omega arith) d.gives in
    omega (arith, falls, stays)
left_falls r lawful w v (enters d) =
    let falls = weigh-set left_at w.trace d.statement unseen (waiting w.turn d.env) d.there in
    omega (arith, falls, slice_get_within r.entries w.turn (d.statement, d.env) d.next)
