-- Where the walk ends with a list, the list fits; where a list fits, the walk ends with it.
use Rattle.std.proofs.Common.{◌≡◌, ℕ, zero, suc, ◌+◌, ◌<◌, ◌≤◌, List, [], ◌∷◌, length, set, Option, Some, None, Result, Ok, Err, refl, sym, ap, subst, ◌∙◌, arith, inl, inr}
use Rattle.std.proofs.Math.ListN.{length-set}
use Rattle.std.specs.List.{slice_get}
use Rattle.std.proofs.lemmas.Bool.{cases_eq}
use Rattle.std.proofs.lemmas.Bool.Decides.{nat_tests}
use Rattle.std.proofs.lemmas.Option.{none-some, same_Some, slice_get_within, some_pair_parts}
use Rattle.statement_walk.specs.Rules.{Rules, Lawful}
use Rattle.statement_walk.specs.Annotates.{Follows, Reached, entry, along, Annotates}
use Rattle.statement_walk.specs.Walk.{Seen, unseen, waiting, done, Trace, State, given, held_by, unless, and_then, meet, arrive_at, arrive, deliver, waiting_from, unseen_from, answers, go, stop, turn_of, after, Stops}
use Rattle.statement_walk.proofs.Arrivals.{err-ok, same_Ok, inside}
use Rattle.statement_walk.proofs.Deliveries.{given-written, given-others, follows_along}
use Rattle.statement_walk.proofs.Parts.{followed}
use Rattle.statement_walk.proofs.Settled.{Settled, settled-start, settled-turn, settled-after, after_keeps, nothing_given, given_within, given-marked, marked}
use Rattle.statement_walk.proofs.Turns.{Delivers, Idle, Happens, happens, delivers, fails, enters, strays, shares, misses, ends, none_waits}

-- the end

answers_given : {E : Type 0} (u : Trace E) (s t : ℕ) → unseen_from s u ≡ None → slice_get (answers u) t ≡ given u t
answers_given [] s t none = refl
answers_given (unseen ∷ u) s t none = absurd (none-some s (sym none))
answers_given (waiting f e ∷ u) s zero none = refl
answers_given (waiting f e ∷ u) s (suc t) none = answers_given u (s + 1) t none
answers_given (done f e ∷ u) s zero none = refl
answers_given (done f e ∷ u) s (suc t) none = answers_given u (s + 1) t none

length-answers : {E : Type 0} (u : Trace E) (s : ℕ) → unseen_from s u ≡ None → length (answers u) ≡ length u
length-answers [] s none = refl
length-answers (unseen ∷ u) s none = absurd (none-some s (sym none))
length-answers (waiting f e ∷ u) s none = ap suc (length-answers u (s + 1) none)
length-answers (done f e ∷ u) s none = ap suc (length-answers u (s + 1) none)

past_none : {A : Type 0} (xs : List A) (n : ℕ) → slice_get xs n ≡ None → length xs ≤ n
past_none [] n none = omega arith
past_none (x ∷ xs) zero none = absurd (none-some x (sym none))
past_none (x ∷ xs) (suc n) none = omega (arith, past_none xs n none)

-- all functions were entered
all_entered : {E F : Type 0} (r : Rules E F) (w : State E) → Settled r w → Idle r w → (i s : ℕ) (e : E) → slice_get r.entries i ≡ Some (s, e) → given w.trace s ≡ Some (i, e)
all_entered r w settled idle i s e is =
    let past = past_none r.entries w.turn idle.entered in
    let within = slice_get_within r.entries i (s, e) is in
    settled.entered i s e (omega arith) is

-- what is seen when nothing waits is done
is_done : {E : Type 0} (u : Trace E) (s f : ℕ) (e : E) → waiting_from 0 u ≡ None → given u s ≡ Some (f, e) → slice_get u s ≡ Some (done f e)
is_done {E} u s f e idle is = at (slice_get u s) refl is
  where
    at : (o : Option (Seen E)) → slice_get u s ≡ o → held_by o ≡ Some (f, e) → o ≡ Some (done f e)
    at None here is = absurd (none-some _ is)
    at (Some unseen) here is = absurd (none-some _ is)
    at (Some (waiting g d)) here is = absurd (none_waits u 0 s g d idle here)
    at (Some (done g d)) here is = let parts = some_pair_parts g f d e is in ap (λ h. Some (done h d)) parts.0 ∙ ap (λ b. Some (done f b)) parts.1

all_followed : {E F : Type 0} (r : Rules E F) (w : State E) → Settled r w → Idle r w → (s f : ℕ) (e : E) → given w.trace s ≡ Some (f, e) → Follows (given w.trace) f (r.flow f s e)
all_followed r w settled idle s f e is = settled.flowed s f e (is_done w.trace s f e idle.idle is)

given_some : {E : Type 0} (u : Trace E) (s t : ℕ) → unseen_from s u ≡ None → t < length u → (x : ℕ × E) × (given u t ≡ Some x)
given_some [] s t none lt = absurd (omega arith)
given_some (unseen ∷ u) s t none lt = absurd (none-some s (sym none))
given_some (waiting f e ∷ u) s zero none lt = ((f, e), refl)
given_some (waiting f e ∷ u) s (suc t) none lt = given_some u (s + 1) t none (omega arith)
given_some (done f e ∷ u) s zero none lt = ((f, e), refl)
given_some (done f e ∷ u) s (suc t) none lt = given_some u (s + 1) t none (omega arith)

-- the list of a walk that ends fits
pub ends_fit : {E F : Type 0} (r : Rules E F) (w : State E) → Settled r w → Idle r w → unseen_from 0 w.trace ≡ None → Annotates r (answers w.trace)
ends_fit r w settled idle none = record {
  long = length-answers w.trace 0 none ∙ settled.sized;
  begins = λ i s e is. answers_given w.trace 0 s none ∙ all_entered r w settled idle i s e is;
  flows = λ s f e is.
      follows_along (given w.trace) (slice_get (answers w.trace)) f (r.flow f s e) (λ t x here. answers_given w.trace 0 t none ∙ here)
      (all_followed r w settled idle s f e (sym (answers_given w.trace 0 s none) ∙ is));
  reached = λ s lt.
      let some = given_some w.trace 0 s none (omega (arith, settled.sized)) in
      (settled.met s some.0.0 some.0.1 some.1).0;
}

-- what is reached is seen when nothing waits and all functions were entered
pub all_seen : {E F : Type 0} (r : Rules E F) → Lawful r → (w : State E) → Settled r w → Idle r w → (s : ℕ) → Reached r s → (x : ℕ × E) × (given w.trace s ≡ Some x)
all_seen r lawful w settled idle q (entry i s e is) = ((i, e), all_entered r w settled idle i s e is)
all_seen r lawful w settled idle q (along k s t reached lead) =
    let before = all_seen r lawful w settled idle s reached in
    let within : s < r.size = omega (arith, given_within w.trace s before.0 before.1, settled.sized) in
    let here = followed r lawful (given w.trace) before.0.0 s before.0.1 k t within (all_followed r w settled idle s before.0.0 before.0.1 before.1) lead in
    ((before.0.0, here.0), here.1)

-- a list that fits

-- all that is given is what the list has
abbrev pub Only : {E : Type 0} → Trace E → List (ℕ × E) → Type 0
Only {E} u a = (t : ℕ) (x : ℕ × E) → given u t ≡ Some x → slice_get a t ≡ Some x

only-written : {E : Type 0} (u : Trace E) (a : List (ℕ × E)) (t f : ℕ) (e : E) → slice_get u t ≡ Some unseen → Only u a → slice_get a t ≡ Some (f, e) → Only (set u t (waiting f e)) a
only-written u a t f e here only has q x is =
    elim (cases_eq q t) [
      | inl same ↦ ap (slice_get a) same ∙ has ∙ sym (given-written u t f e unseen here) ∙ ap (given (set u t (waiting f e))) (sym same) ∙ is
      | inr other ↦ only q x (sym (given-others u t q (waiting f e) other) ∙ is)
    ]

meet_same : {E F : Type 0} (r : Rules E F) → Lawful r → (f s : ℕ) (e : E) (g : ℕ) (had : E) (u : Trace E) → g ≡ f → e ≡ had → meet r f s e g had u ≡ Ok u
meet_same r lawful f s e g had u same alike =
    let here : meet r f s e g had u ≡ unless (r.clash s e had) u = grind (arith, nat_tests) in
    here ∙ ap (λ o. unless o u) ((lawful.clashes s e had).1 alike)

arrive_agrees : {E F : Type 0} (r : Rules E F) → Lawful r → (a : List (ℕ × E)) (f s t : ℕ) (e : E) (u : Trace E) → length u ≡ length a → Only u a → slice_get a t ≡ Some (f, e)
    → (v : Trace E) × (arrive r f s t e u ≡ Ok v) × (length v ≡ length a) × Only v a
arrive_agrees {E} {F} r lawful a f s t e u sized only has =
    let there = inside u t (omega (arith, slice_get_within a t (f, e) has)) in
    at there.0 there.1
  where
    met : (g : ℕ) (had : E) → given u t ≡ Some (g, had) → meet r f s e g had u ≡ Ok u
    met g had here =
        let parts = some_pair_parts f g e had (sym has ∙ only t (g, had) here) in
        meet_same r lawful f s e g had u (sym parts.0) parts.1

    at : (y : Seen E) → slice_get u t ≡ Some y → (v : Trace E) × (arrive r f s t e u ≡ Ok v) × (length v ≡ length a) × Only v a
    at unseen here = (set u t (waiting f e), ap (arrive_at r f s t e u) here, length-set u t (waiting f e) ∙ sized, only-written u a t f e here only has)
    at (waiting g had) here = (u, ap (arrive_at r f s t e u) here ∙ met g had (ap held_by here), sized, only)
    at (done g had) here = (u, ap (arrive_at r f s t e u) here ∙ met g had (ap held_by here), sized, only)

deliver_agrees : {E F : Type 0} (r : Rules E F) → Lawful r → (a : List (ℕ × E)) (f s : ℕ) (parts : List (Result (ℕ × E) F)) (u : Trace E) → length u ≡ length a → Only u a → Follows (slice_get a) f parts
    → (v : Trace E) × (deliver r f s parts u ≡ Ok v) × Only v a
deliver_agrees r lawful a f s [] u sized only follows = (u, refl, only)
deliver_agrees r lawful a f s (Err x ∷ parts) u sized only follows = absurd follows
deliver_agrees r lawful a f s (Ok p ∷ parts) u sized only follows =
    let first = arrive_agrees r lawful a f s p.0 p.1 u sized only follows.0 in
    let later = deliver_agrees r lawful a f s parts first.0 first.2 first.3 follows.1 in
    (later.0, ap (λ o. and_then o (deliver r f s parts)) first.1 ∙ later.1, later.2)

-- what a statement's turn gives
delivers_agrees : {E F : Type 0} (r : Rules E F) → Lawful r → (a : List (ℕ × E)) → Annotates r a → (w : State E) → Settled r w → Only w.trace a → (result : Result (Trace E) F) → Delivers r w result
    → (v : Trace E) × (result ≡ Ok v) × Only v a
delivers_agrees r lawful a fits w settled only result d =
    let has = only d.statement (d.function, d.env) (ap held_by d.waits) in
    let sized : length (marked r w result d) ≡ length a = length-set w.trace d.statement (done d.function d.env) ∙ settled.sized ∙ sym fits.long in
    let gives = deliver_agrees r lawful a d.function d.statement (r.flow d.function d.statement d.env) (marked r w result d) sized (λ t x is. only t x (sym (given-marked w.trace d.statement t d.function d.env d.waits) ∙ is)) (fits.flows d.statement d.function d.env has) in
    (gives.0, sym d.gives ∙ gives.1, gives.2)

only-turn : {E F : Type 0} (r : Rules E F) → Lawful r → (a : List (ℕ × E)) → Annotates r a → (w v : State E) → Settled r w → Only w.trace a → Happens r w (go v) → Only v.trace a
only-turn r lawful a fits w v settled only (delivers trace d) =
    let agrees = delivers_agrees r lawful a fits w settled only (Ok trace) d in
    subst (λ u. Only u a) (sym (same_Ok trace agrees.0 agrees.1)) agrees.2
only-turn r lawful a fits w v settled only (enters d) = only-written w.trace a d.statement w.turn d.env d.there only (fits.begins w.turn d.statement d.env d.next)

pub only-after : {E F : Type 0} (r : Rules E F) → Lawful r → (a : List (ℕ × E)) → Annotates r a → (n : ℕ) → Only (after r n).trace a
only-after {E} r lawful a fits n =
    (after_keeps r (λ (w : State E). Settled r w × Only w.trace a)
    (settled-start r, λ t x is. absurd (nothing_given r.size t x is))
    (λ w v here turn. (settled-turn r lawful w v here.0 turn, only-turn r lawful a fits w v here.0 here.1 turn))
    n).1

same_list : {A : Type 0} (xs ys : List A) → length xs ≡ length ys → ((t : ℕ) (x : A) → slice_get xs t ≡ Some x → slice_get ys t ≡ Some x) → xs ≡ ys
same_list [] [] long same = refl
same_list [] (y ∷ ys) long same = absurd (omega arith)
same_list (x ∷ xs) [] long same = absurd (omega arith)
same_list (x ∷ xs) (y ∷ ys) long same =
    let head = same_Some y x (same 0 x refl) in
    let tail = same_list xs ys (omega arith) (λ t z is. same (suc t) z is) in
    cc

-- a walk of rules that a list fits can only end with that list
fits_ends : {E F : Type 0} (r : Rules E F) → Lawful r → (a : List (ℕ × E)) → Annotates r a → (w : State E) → Settled r w → Only w.trace a → (x : Result (List (ℕ × E)) F) → Happens r w (stop x) → x ≡ Ok a
fits_ends r lawful a fits w settled only x (fails fault d) = let agrees = delivers_agrees r lawful a fits w settled only (Err fault) d in absurd (err-ok fault agrees.0 agrees.1)
fits_ends r lawful a fits w settled only x (strays d) =
    let has = fits.begins w.turn d.statement d.env d.next in
    let there = inside w.trace d.statement (omega (arith, slice_get_within a d.statement (w.turn, d.env) has, fits.long, settled.sized)) in
    absurd (none-some there.0 (sym d.there ∙ there.1))
fits_ends r lawful a fits w settled only x (shares y had held d) =
    let is = ap held_by d.there ∙ held in
    let earlier = (settled.met d.statement had.0 had.1 is).1 in
    let parts = some_pair_parts had.0 w.turn had.1 d.env (sym (only d.statement had is) ∙ fits.begins w.turn d.statement d.env d.next) in
    absurd (omega (arith, parts.0, earlier))
fits_ends r lawful a fits w settled only x (misses s idle free) =
    let within : s < r.size = omega (arith, slice_get_within w.trace s unseen free, settled.sized) in
    let seen = all_seen r lawful w settled idle s (fits.reached s within) in
    absurd (none-some seen.0 (sym (ap held_by free) ∙ seen.1))
fits_ends r lawful a fits w settled only x (ends idle none) =
    ap Ok (same_list (answers w.trace) a (length-answers w.trace 0 none ∙ settled.sized ∙ sym fits.long) (λ t y is. only t y (sym (answers_given w.trace 0 t none) ∙ is)))

-- what a stop is, by the walk's turns

pub stops_happens : {E F : Type 0} (r : Rules E F) (x : Result (List (ℕ × E)) F) (n : ℕ) → turn_of r (after r n) ≡ stop x → Happens r (after r n) (stop x)
stops_happens r x n is = subst (Happens r (after r n)) is (happens r (after r n))

pub complete : {E F : Type 0} (r : Rules E F) → Lawful r → (a : List (ℕ × E)) → Annotates r a → (x : Result (List (ℕ × E)) F) → Stops r x → x ≡ Ok a
complete r lawful a fits x stops = fits_ends r lawful a fits (after r stops.0) (settled-after r lawful stops.0) (only-after r lawful a fits stops.0) x (stops_happens r x stops.0 stops.1)

pub sound : {E F : Type 0} (r : Rules E F) → Lawful r → (a : List (ℕ × E)) → Stops r (Ok a) → Annotates r a
sound r lawful a stops = at (after r stops.0) a (settled-after r lawful stops.0) (stops_happens r (Ok a) stops.0 stops.1)
  where
    at : (w : State _) (b : List (ℕ × _)) → Settled r w → Happens r w (stop (Ok b)) → Annotates r b
    at w b settled (ends idle none) = ends_fit r w settled idle none
