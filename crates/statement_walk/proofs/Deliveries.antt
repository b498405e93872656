-- What all branches of a statement do to a trace.
use Rattle.std.proofs.Common.{◌≡◌, ℕ, suc, List, [], ◌∷◌, length, set, Option, Some, Result, Ok, Err, refl, sym, ap, subst, ◌∙◌, inl, inr}
use Rattle.std.proofs.Math.ListN.{length-set}
use Rattle.std.specs.List.{slice_get}
use Rattle.std.proofs.lemmas.Bool.{cases_eq}
use Rattle.std.proofs.lemmas.Option.{none-some, same_Some}
use Rattle.statement_walk.specs.Rules.{Rules, Lawful}
use Rattle.statement_walk.specs.Annotates.{Follows}
use Rattle.statement_walk.specs.Walk.{Seen, unseen, waiting, done, Trace, given, held_by, and_then, arrive, deliver}
use Rattle.statement_walk.proofs.Arrivals.{err-ok, same_Ok, arrives, slice_get-set_same, slice_get-set_other}

pub and_then_ok : {A B F : Type 0} (o : Result A F) (next : A → Result B F) (b : B) → and_then o next ≡ Ok b → (a : A) × (o ≡ Ok a) × (next a ≡ Ok b)
and_then_ok (Ok a) next b is = (a, refl, is)
and_then_ok (Err x) next b is = absurd (err-ok x b is)

-- What is kept by each arrival at a statement that isn't seen is kept by all of them.
pub deliver_keeps : {E F : Type 0} (r : Rules E F) → Lawful r → (P : Trace E → Type 0) (f s : ℕ) (parts : List (Result (ℕ × E) F)) (u v : Trace E)
    → ((k t : ℕ) (e : E) (w : Trace E) → slice_get parts k ≡ Some (Ok (t, e)) → slice_get w t ≡ Some unseen → P w → P (set w t (waiting f e)))
    → P u → deliver r f s parts u ≡ Ok v → P v
deliver_keeps r lawful P f s [] u v step begin is = subst P (same_Ok u v is) begin
deliver_keeps r lawful P f s (Err x ∷ parts) u v step begin is = absurd (err-ok x v is)
deliver_keeps r lawful P f s (Ok p ∷ parts) u v step begin is =
    let first = and_then_ok (arrive r f s p.0 p.1 u) (deliver r f s parts) v is in
    let later = λ (here : P first.0). deliver_keeps r lawful P f s parts first.0 v (λ k t e w at. step (suc k) t e w at) here first.2 in
    elim (arrives r lawful f s p.0 p.1 u first.0 first.1) [
      | inl new ↦ later (rw new.1 (step 0 p.0 p.1 u refl new.0 begin))
      | inr had ↦ later (rw had.1 begin)
    ]

-- No statement loses what it has, and none is done that wasn't.
pub record Grows {E : Type 0} (u v : Trace E) : Type 0 where
  pub long : length v ≡ length u
  pub kept : (t : ℕ) (x : ℕ × E) → given u t ≡ Some x → given v t ≡ Some x
  pub fresh : (t f : ℕ) (e : E) → slice_get v t ≡ Some (done f e) → slice_get u t ≡ Some (done f e)

pub grows-refl : {E : Type 0} (u : Trace E) → Grows u u
grows-refl u = record { long = refl; kept = λ t x is. is; fresh = λ t f e is. is }

pub grows-trans : {E : Type 0} (u v w : Trace E) → Grows u v → Grows v w → Grows u w
grows-trans u v w a b = record {
  long = b.long ∙ a.long;
  kept = λ t x is. b.kept t x (a.kept t x is);
  fresh = λ t f e is. a.fresh t f e (b.fresh t f e is);
}

-- a statement that wasn't seen is written
pub given-written : {E : Type 0} (u : Trace E) (t g : ℕ) (e : E) (y : Seen E) → slice_get u t ≡ Some y → given (set u t (waiting g e)) t ≡ Some (g, e)
given-written u t g e y here = ap held_by (slice_get-set_same u t y (waiting g e) here)

pub given-others : {E : Type 0} (u : Trace E) (t q : ℕ) (y : Seen E) → (q ≡ t → ⊥) → given (set u t y) q ≡ given u q
given-others u t q y other = ap held_by (slice_get-set_other u t q y other)

pub arrival_grows : {E : Type 0} (u : Trace E) (t g : ℕ) (e : E) → slice_get u t ≡ Some unseen → Grows u (set u t (waiting g e))
arrival_grows {E} u t g e here = record {
  long = length-set u t (waiting g e);
  kept = λ q x is.
      elim (cases_eq q t) [
        | inl same ↦ absurd (none-some x (sym (ap held_by here) ∙ sym (ap (given u) same) ∙ is))
        | inr other ↦ given-others u t q (waiting g e) other ∙ is
      ];
  fresh = λ q f e' is.
      elim (cases_eq q t) [
        | inl same ↦
            let written : slice_get (set u t (waiting g e)) q ≡ Some (waiting g e) = rw same (slice_get-set_same u t unseen (waiting g e) here) in
            absurd (other_seen f g e' e (same_Some _ _ (sym is ∙ written)))
        | inr other ↦ sym (slice_get-set_other u t q (waiting g e) other) ∙ is
      ];
}
  where
    other_seen : (f g : ℕ) (e e' : E) → ◌≡◌ {A = Seen E} (done f e) (waiting g e') → ⊥
    other_seen f g e e' is = cc

pub deliver_grows : {E F : Type 0} (r : Rules E F) → Lawful r → (f s : ℕ) (parts : List (Result (ℕ × E) F)) (u v : Trace E) → deliver r f s parts u ≡ Ok v → Grows u v
deliver_grows r lawful f s parts u v is =
    deliver_keeps r lawful (Grows u) f s parts u v (λ k t e w at here sofar. grows-trans u w (set w t (waiting f e)) sofar (arrival_grows w t f e here)) (grows-refl u) is

-- what a branch leads to has it
pub arrive_gives : {E F : Type 0} (r : Rules E F) → Lawful r → (f s t : ℕ) (e : E) (u v : Trace E) → arrive r f s t e u ≡ Ok v → given v t ≡ Some (f, e)
arrive_gives r lawful f s t e u v is =
    elim (arrives r lawful f s t e u v is) [
      | inl new ↦ rw new.1 (given-written u t f e unseen new.0)
      | inr had ↦ rw had.1 had.0
    ]

pub follows_along : {E F : Type 0} (at later : ℕ → Option (ℕ × E)) (f : ℕ) (parts : List (Result (ℕ × E) F)) → ((t : ℕ) (x : ℕ × E) → at t ≡ Some x → later t ≡ Some x) → Follows at f parts → Follows later f parts
follows_along at later f [] kept follows = tt
follows_along at later f (Err x ∷ parts) kept follows = absurd follows
follows_along at later f (Ok p ∷ parts) kept follows = (kept p.0 (f, p.1) follows.0, follows_along at later f parts kept follows.1)

pub delivers : {E F : Type 0} (r : Rules E F) → Lawful r → (f s : ℕ) (parts : List (Result (ℕ × E) F)) (u v : Trace E) → deliver r f s parts u ≡ Ok v → Follows (given v) f parts
delivers r lawful f s [] u v is = tt
delivers r lawful f s (Err x ∷ parts) u v is = absurd (err-ok x v is)
delivers r lawful f s (Ok p ∷ parts) u v is =
    let first = and_then_ok (arrive r f s p.0 p.1 u) (deliver r f s parts) v is in
    let here = arrive_gives r lawful f s p.0 p.1 u first.0 first.1 in
    ((deliver_grows r lawful f s parts first.0 v first.2).kept p.0 (f, p.1) here, delivers r lawful f s parts first.0 v first.2)
