-- What holds after any number of turns.
use Rattle.std.proofs.Common.{◌≡◌, ℕ, zero, suc, ◌+◌, ◌<◌, [], ◌∷◌, length, set, replicate, Some, Result, Ok, sym, ap, ◌∙◌, arith, inl, inr}
use Rattle.std.proofs.Math.ListN.{length-set, length-replicate}
use Rattle.std.specs.List.{slice_get}
use Rattle.std.proofs.lemmas.Bool.{cases_eq, cases_lt}
use Rattle.std.proofs.lemmas.Option.{none-some, same_Some, some_pair_parts}
use Rattle.statement_walk.specs.Rules.{Rules, Lawful}
use Rattle.statement_walk.specs.Annotates.{Follows, Reached, entry, along}
use Rattle.statement_walk.specs.Walk.{Seen, unseen, waiting, done, Trace, State, given, held_by, Turn, go, stop, turn_of, next_of, start, after}
use Rattle.statement_walk.proofs.Arrivals.{slice_get-set_same, slice_get-set_other}
use Rattle.statement_walk.proofs.Deliveries.{deliver_keeps, deliver_grows, delivers, Grows, arrival_grows, given-written, given-others, follows_along}
use Rattle.statement_walk.proofs.Parts.{leads_there}
use Rattle.statement_walk.proofs.Turns.{Delivers, Enters, Happens, happens, delivers as delivers_turn, enters}

next_keeps : {E F : Type 0} (r : Rules E F) (P : State E → Type 0) → ((w v : State E) → P w → Happens r w (go v) → P v) → (w : State E) (t : Turn E F) → P w → Happens r w t → P (next_of t w)
next_keeps r P step w (go v) here is = step w v here is
next_keeps r P step w (stop x) here is = here

-- What holds at the start and is kept by each turn holds after any number.
pub after_keeps : {E F : Type 0} (r : Rules E F) (P : State E → Type 0) → P (start r) → ((w v : State E) → P w → Happens r w (go v) → P v) → (n : ℕ) → P (after r n)
unfolding after
after_keeps r P begin step zero = begin
after_keeps r P begin step (suc n) = next_keeps r P step (after r n) (turn_of r (after r n)) (after_keeps r P begin step n) (happens r (after r n))

pub given_within : {E : Type 0} (u : Trace E) (t : ℕ) (x : ℕ × E) → given u t ≡ Some x → t < length u
given_within [] t x is = absurd (none-some x is)
given_within (y ∷ ys) zero x is = omega arith
given_within (y ∷ ys) (suc t) x is = omega (arith, given_within ys t x is)

-- a statement that is marked as done has what it had
pub given-marked : {E : Type 0} (u : Trace E) (s q f : ℕ) (e : E) → slice_get u s ≡ Some (waiting f e) → given (set u s (done f e)) q ≡ given u q
given-marked u s q f e here =
    elim (cases_eq q s) [
      | inl same ↦
          let before : given u q ≡ Some (f, e) = ap (given u) same ∙ ap held_by here in
          let behind : given (set u s (done f e)) q ≡ Some (f, e) = ap (given (set u s (done f e))) same ∙ ap held_by (slice_get-set_same u s (waiting f e) (done f e) here) in
          behind ∙ sym before
      | inr other ↦ given-others u s q (done f e) other
    ]

pub record Settled {E F : Type 0} (r : Rules E F) (w : State E) : Type 0 where
  pub sized : length w.trace ≡ r.size
  pub flowed : (s f : ℕ) (e : E) → slice_get w.trace s ≡ Some (done f e) → Follows (given w.trace) f (r.flow f s e)
  pub entered : (i s : ℕ) (e : E) → i < w.turn → slice_get r.entries i ≡ Some (s, e) → given w.trace s ≡ Some (i, e)
  pub met : (s f : ℕ) (e : E) → given w.trace s ≡ Some (f, e) → Reached r s × (f < w.turn)

pub nothing_given : {E : Type 0} (n t : ℕ) (x : ℕ × E) → given (replicate n unseen) t ≡ Some x → ⊥
nothing_given zero t x is = none-some x is
nothing_given (suc n) zero x is = none-some x is
nothing_given (suc n) (suc t) x is = nothing_given n t x is

pub settled-start : {E F : Type 0} (r : Rules E F) → Settled r (start r)
settled-start r = record {
  sized = length-replicate r.size unseen;
  flowed = λ s f e is. absurd (nothing_given r.size s (f, e) (ap held_by is));
  entered = λ i s e lt is. absurd (omega arith);
  met = λ s f e is. absurd (nothing_given r.size s (f, e) is);
}

-- a statement's turn

-- the trace with the statement marked as done
abbrev pub marked : {E F : Type 0} (r : Rules E F) (w : State E) (result : Result (Trace E) F) → Delivers r w result → Trace E
marked r w result d = set w.trace d.statement (done d.function d.env)

pub delivered_grows : {E F : Type 0} (r : Rules E F) → Lawful r → (w : State E) (v : Trace E) → (d : Delivers r w (Ok v)) → Grows (marked r w (Ok v) d) v
delivered_grows r lawful w v d = deliver_grows r lawful d.function d.statement (r.flow d.function d.statement d.env) (marked r w (Ok v) d) v d.gives

-- what was given stays
pub delivered_kept : {E F : Type 0} (r : Rules E F) → Lawful r → (w : State E) (v : Trace E) → Delivers r w (Ok v) → (q : ℕ) (x : ℕ × E) → given w.trace q ≡ Some x → given v q ≡ Some x
delivered_kept r lawful w v d q x is = (delivered_grows r lawful w v d).kept q x (given-marked w.trace d.statement q d.function d.env d.waits ∙ is)

-- the statement whose turn it is lies inside
pub statement_within : {E F : Type 0} (r : Rules E F) (w : State E) (result : Result (Trace E) F) → length w.trace ≡ r.size → (d : Delivers r w result) → d.statement < r.size
statement_within r w result sized d = let within = given_within w.trace d.statement (d.function, d.env) (ap held_by d.waits) in omega (arith, sized)

-- what an arrival gives, and where it comes from
arrival_met : {E F : Type 0} (r : Rules E F) (turn f s t k : ℕ) (e : E) (w : Trace E) → f < turn → Reached r s → slice_get (r.leads s) k ≡ Some t → slice_get w t ≡ Some unseen
    → ((q g : ℕ) (d : E) → given w q ≡ Some (g, d) → Reached r q × (g < turn)) → (q g : ℕ) (d : E) → given (set w t (waiting f e)) q ≡ Some (g, d) → Reached r q × (g < turn)
arrival_met r turn f s t k e w lt reached lead here met q g d is =
    elim (cases_eq q t) [
      | inl same ↦
          let parts = some_pair_parts f g e d (sym (given-written w t f e unseen here) ∙ ap (given (set w t (waiting f e))) (sym same) ∙ is) in
          (rw same (along k s t reached lead), omega (arith, parts.0))
      | inr other ↦ met q g d (sym (given-others w t q (waiting f e) other) ∙ is)
    ]

delivered_met : {E F : Type 0} (r : Rules E F) → Lawful r → (w : State E) (v : Trace E) → Settled r w → Delivers r w (Ok v) → (q g : ℕ) (d : E) → given v q ≡ Some (g, d) → Reached r q × (g < w.turn)
delivered_met {E} r lawful w v settled d =
    let here = settled.met d.statement d.function d.env (ap held_by d.waits) in
    let within = statement_within r w (Ok v) settled.sized d in
    deliver_keeps r lawful (λ (u : Trace E). (q g : ℕ) (e : E) → given u q ≡ Some (g, e) → Reached r q × (g < w.turn)) d.function d.statement (r.flow d.function d.statement d.env) (marked r w (Ok v) d) v
    (λ k t e u at free sofar. arrival_met r w.turn d.function d.statement t k e u here.1 here.0 (leads_there r lawful d.function d.statement d.env k (t, e) within at).0 free sofar)
    (λ q g e is. settled.met q g e (sym (given-marked w.trace d.statement q d.function d.env d.waits) ∙ is))
    d.gives

same_done : {E : Type 0} (f g : ℕ) (d e : E) → ◌≡◌ {A = Seen E} (done f d) (done g e) → (f ≡ g) × (d ≡ e)
same_done f g d e is = (cc, cc)

delivered_flowed : {E F : Type 0} (r : Rules E F) → Lawful r → (w : State E) (v : Trace E) → Settled r w → Delivers r w (Ok v) → (q g : ℕ) (e : E) → slice_get v q ≡ Some (done g e) → Follows (given v) g (r.flow g q e)
delivered_flowed r lawful w v settled d q g e is =
    let before = (delivered_grows r lawful w v d).fresh q g e is in
    elim (cases_eq q d.statement) [
      | inl same ↦
          let written = slice_get-set_same w.trace d.statement (waiting d.function d.env) (done d.function d.env) d.waits in
          let parts = same_done d.function g d.env e (same_Some _ _ (sym written ∙ ap (slice_get (marked r w (Ok v) d)) (sym same) ∙ before)) in
          let flow_is : r.flow d.function d.statement d.env ≡ r.flow g q e = ap (λ f. r.flow f d.statement d.env) parts.0 ∙ ap (λ s. r.flow g s d.env) (sym same) ∙ ap (r.flow g q) parts.1 in
          rw (← flow_is, ← parts.0) (delivers r lawful d.function d.statement (r.flow d.function d.statement d.env) (marked r w (Ok v) d) v d.gives)
      | inr other ↦
          let was = settled.flowed q g e (sym (slice_get-set_other w.trace d.statement q (done d.function d.env) other) ∙ before) in
          follows_along (given w.trace) (given v) g (r.flow g q e) (delivered_kept r lawful w v d) was
    ]

settled-delivered : {E F : Type 0} (r : Rules E F) → Lawful r → (w : State E) (v : Trace E) → Settled r w → Delivers r w (Ok v) → Settled r (record { trace = v; turn = w.turn })
settled-delivered r lawful w v settled d = record {
  sized = (delivered_grows r lawful w v d).long ∙ length-set w.trace d.statement (done d.function d.env) ∙ settled.sized;
  flowed = delivered_flowed r lawful w v settled d;
  entered = λ i s e lt is. delivered_kept r lawful w v d s (i, e) (settled.entered i s e lt is);
  met = delivered_met r lawful w v settled d;
}

-- a function's turn

abbrev pub begun : {E F : Type 0} (r : Rules E F) (w : State E) → Enters r w (Some unseen) → Trace E
begun r w d = set w.trace d.statement (waiting w.turn d.env)

pub begun_grows : {E F : Type 0} (r : Rules E F) (w : State E) → (d : Enters r w (Some unseen)) → Grows w.trace (begun r w d)
begun_grows r w d = arrival_grows w.trace d.statement w.turn d.env d.there

begun_met : {E F : Type 0} (r : Rules E F) (w : State E) → Settled r w → (d : Enters r w (Some unseen)) → (q g : ℕ) (e : E) → given (begun r w d) q ≡ Some (g, e) → Reached r q × (g < w.turn + 1)
begun_met r w settled d q g e is =
    elim (cases_eq q d.statement) [
      | inl same ↦
          let parts = some_pair_parts w.turn g d.env e (sym (given-written w.trace d.statement w.turn d.env unseen d.there) ∙ ap (given (begun r w d)) (sym same) ∙ is) in
          (rw same (entry w.turn d.statement d.env d.next), omega (arith, parts.0))
      | inr other ↦
          let was = settled.met q g e (sym (given-others w.trace d.statement q (waiting w.turn d.env) other) ∙ is) in
          (was.0, omega (arith, was.1))
    ]

begun_entered : {E F : Type 0} (r : Rules E F) (w : State E) → Settled r w → (d : Enters r w (Some unseen)) → (i s : ℕ) (e : E) → i < w.turn + 1 → slice_get r.entries i ≡ Some (s, e) → given (begun r w d) s ≡ Some (i, e)
begun_entered r w settled d i s e lt is =
    elim (cases_lt i w.turn) [
      | inl earlier ↦ (begun_grows r w d).kept s (i, e) (settled.entered i s e earlier is)
      | inr here ↦
          let same : i ≡ w.turn = omega arith in
          let parts = some_pair_parts d.statement s d.env e (sym d.next ∙ ap (slice_get r.entries) (sym same) ∙ is) in
          let written = given-written w.trace d.statement w.turn d.env unseen d.there in
          ap (given (begun r w d)) (sym parts.0) ∙ written ∙ ap (λ f. Some (f, d.env)) (sym same) ∙ ap (λ x. Some (i, x)) parts.1
    ]

settled-begun : {E F : Type 0} (r : Rules E F) (w : State E) → Settled r w → (d : Enters r w (Some unseen)) → Settled r (record { trace = begun r w d; turn = w.turn + 1 })
settled-begun r w settled d = record {
  sized = (begun_grows r w d).long ∙ settled.sized;
  flowed = λ s f e is. follows_along (given w.trace) (given (begun r w d)) f (r.flow f s e) (begun_grows r w d).kept (settled.flowed s f e ((begun_grows r w d).fresh s f e is));
  entered = begun_entered r w settled d;
  met = begun_met r w settled d;
}

pub settled-turn : {E F : Type 0} (r : Rules E F) → Lawful r → (w v : State E) → Settled r w → Happens r w (go v) → Settled r v
settled-turn r lawful w v settled (delivers_turn trace d) = settled-delivered r lawful w trace settled d
settled-turn r lawful w v settled (enters d) = settled-begun r w settled d

pub settled-after : {E F : Type 0} (r : Rules E F) → Lawful r → (n : ℕ) → Settled r (after r n)
settled-after r lawful n = after_keeps r (Settled r) (settled-start r) (settled-turn r lawful) n
