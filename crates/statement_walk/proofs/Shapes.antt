-- Rules with the shape of rules that a list fits: their walk fails by a statement's own faults alone.
use Rattle.std.proofs.Common.{◌≡◌, ℕ, suc, ◌<◌, List, [], ◌∷◌, length, set, map, Option, Some, None, option_map, Result, Ok, Err, refl, sym, ap, subst, ◌∙◌, arith, inl, inr, ◌⊎◌}
use Rattle.std.proofs.Math.ListN.{length-set}
use Rattle.std.specs.List.{slice_get}
use Rattle.std.proofs.lemmas.Bool.{cases_eq}
use Rattle.std.proofs.lemmas.Bool.Decides.{nat_tests}
use Rattle.std.proofs.lemmas.Option.{none-some, same_Some, slice_get_within, slice_get-map, some_pair_parts}
use Rattle.statement_walk.specs.Rules.{Rules, Lawful}
use Rattle.statement_walk.specs.Annotates.{Reached, entry, along, Annotates}
use Rattle.statement_walk.specs.Keeps.{SameShape, IsOwn}
use Rattle.statement_walk.specs.Walk.{Seen, unseen, waiting, done, Trace, State, given, held_by, unless, and_then, meet, arrive_at, arrive, deliver, go, stop, after, Stops}
use Rattle.statement_walk.proofs.Arrivals.{err-ok, arrives, inside}
use Rattle.statement_walk.proofs.Deliveries.{deliver_keeps, given-written, given-others}
use Rattle.statement_walk.proofs.Ends.{all_seen, stops_happens}
use Rattle.statement_walk.proofs.Parts.{leads_there, followed}
use Rattle.statement_walk.proofs.Settled.{Settled, settled-start, settled-turn, settled-after, after_keeps, nothing_given, given-marked, marked, statement_within}
use Rattle.statement_walk.proofs.Turns.{Happens, delivers, fails, enters, strays, shares, misses}

-- what a list has of a function at a statement
abbrev pub HasFunction : {E : Type 0} → List (ℕ × E) → ℕ → ℕ → Type 0
HasFunction {E} a s f = (d : E) × (slice_get a s ≡ Some (f, d))

-- all that is given is of the function that the list has there
abbrev pub Named : {D E : Type 0} → Trace D → List (ℕ × E) → Type 0
Named {D} u a = (t f : ℕ) (e : D) → given u t ≡ Some (f, e) → HasFunction a t f

mapped_some : {A B : Type 0} (f : A → B) (o : Option A) (y : B) → option_map f o ≡ Some y → (x : A) × (o ≡ Some x) × (f x ≡ y)
mapped_some f None y is = absurd (none-some y is)
mapped_some f (Some x) y is = (x, refl, same_Some (f x) y is)

-- an entry of one is an entry of the other
same_entry : {D E : Type 0} (xs : List (ℕ × D)) (ys : List (ℕ × E)) → map (λ (x : ℕ × D). x.0) xs ≡ map (λ (x : ℕ × E). x.0) ys → (i s : ℕ) (e : D) → slice_get xs i ≡ Some (s, e) → (d : E) × (slice_get ys i ≡ Some (s, d))
same_entry {D} {E} xs ys same i s e is =
    let here : slice_get (map (λ (x : ℕ × E). x.0) ys) i ≡ Some s = ap (λ l. slice_get l i) (sym same) ∙ slice_get-map (λ (x : ℕ × D). x.0) xs i ∙ ap (option_map (λ (x : ℕ × D). x.0)) is in
    let found = mapped_some (λ (x : ℕ × E). x.0) (slice_get ys i) s (sym (slice_get-map (λ (x : ℕ × E). x.0) ys i) ∙ here) in
    (found.0.1, found.1 ∙ ap (λ k. Some (k, found.0.1)) found.2)

same_function : {E : Type 0} (a : List (ℕ × E)) (s f g : ℕ) → HasFunction a s f → HasFunction a s g → f ≡ g
same_function a s f g x y = (some_pair_parts f g x.0 y.0 (sym x.1 ∙ y.1)).0

-- where a branch leads, the list has its function
branch_named : {E F D G : Type 0} (r : Rules E F) (q : Rules D G) → Lawful r → Lawful q → SameShape r q → (a : List (ℕ × E)) → Annotates r a → (f s : ℕ) (e : D) → s < q.size → HasFunction a s f → (k : ℕ) (p : ℕ × D) → slice_get (q.flow f s e) k ≡ Some (Ok p) → HasFunction a p.0 f
branch_named r q lawful lawful' shape a fits f s e lt has k p is =
    let lead = (leads_there q lawful' f s e k p lt is).0 in
    followed r lawful (slice_get a) f s has.0 k p.0 (omega (arith, shape.size)) (fits.flows s f has.0 has.1) (ap (λ l. slice_get l k) (sym (shape.leads s)) ∙ lead)

named-written : {D E : Type 0} (u : Trace D) (a : List (ℕ × E)) (t f : ℕ) (e : D) → slice_get u t ≡ Some unseen → HasFunction a t f → Named u a → Named (set u t (waiting f e)) a
named-written u a t f e here has named q g d is =
    elim (cases_eq q t) [
      | inl same ↦
          let parts = some_pair_parts f g e d (sym (given-written u t f e unseen here) ∙ ap (given (set u t (waiting f e))) (sym same) ∙ is) in
          rw (same, ← parts.0) has
      | inr other ↦ named q g d (sym (given-others u t q (waiting f e) other) ∙ is)
    ]

named_turn : {E F D G : Type 0} (r : Rules E F) (q : Rules D G) → Lawful r → Lawful q → SameShape r q → (a : List (ℕ × E)) → Annotates r a → (w v : State D) → Settled q w → Named w.trace a → Happens q w (go v) → Named v.trace a
named_turn {D = D} r q lawful lawful' shape a fits w v settled named (delivers trace d) =
    let within = statement_within q w (Ok trace) settled.sized d in
    let has = named d.statement d.function d.env (ap held_by d.waits) in
    deliver_keeps q lawful' (λ (u : Trace D). Named u a) d.function d.statement (q.flow d.function d.statement d.env) (marked q w (Ok trace) d) trace
    (λ k t e u at free sofar. named-written u a t d.function e free (branch_named r q lawful lawful' shape a fits d.function d.statement d.env within has k (t, e) at) sofar)
    (λ t f e is. named t f e (sym (given-marked w.trace d.statement t d.function d.env d.waits) ∙ is))
    d.gives
named_turn r q lawful lawful' shape a fits w v settled named (enters d) =
    let there = same_entry q.entries r.entries shape.entries w.turn d.statement d.env d.next in
    named-written w.trace a d.statement w.turn d.env d.there (there.0, fits.begins w.turn d.statement there.0 there.1) named

named_after : {E F D G : Type 0} (r : Rules E F) (q : Rules D G) → Lawful r → Lawful q → SameShape r q → (a : List (ℕ × E)) → Annotates r a → (n : ℕ) → Named (after q n).trace a
named_after {D = D} r q lawful lawful' shape a fits n =
    (after_keeps q (λ (w : State D). Settled q w × Named w.trace a)
    (settled-start q, λ s f e is. absurd (nothing_given q.size s (f, e) is))
    (λ w v here turn. (settled-turn q lawful' w v here.0 turn, named_turn r q lawful lawful' shape a fits w v here.0 here.1 turn))
    n).1

-- how a statement's turn fails

unless_err : {A F : Type 0} (o : Option F) (a : A) (x : F) → unless o a ≡ Err x → o ≡ Some x
unless_err None a x is = absurd (err-ok x a (sym is))
unless_err (Some y) a x is = let same : y ≡ x = cc in ap Some same

clashes : {D E F : Type 0} (q : Rules D F) (a : List (ℕ × E)) (f s t : ℕ) (e : D) (u : Trace D) (x : F) → length u ≡ length a → Named u a → HasFunction a t f → arrive q f s t e u ≡ Err x → (had : D) × (q.clash s e had ≡ Some x)
clashes {D} {E} {F} q a f s t e u x sized named has is =
    let there = inside u t (omega (arith, slice_get_within a t (f, has.0) has.1, sized)) in
    at there.0 there.1 (sym (ap (arrive_at q f s t e u) there.1) ∙ is)
  where
    met : (g : ℕ) (had : D) → given u t ≡ Some (g, had) → meet q f s e g had u ≡ Err x → (had : D) × (q.clash s e had ≡ Some x)
    met g had here failed =
        let same = same_function a t g f (named t g had here) has in
        let clash : meet q f s e g had u ≡ unless (q.clash s e had) u = grind (arith, nat_tests) in
        (had, unless_err (q.clash s e had) u x (sym clash ∙ failed))

    at : (y : Seen D) → slice_get u t ≡ Some y → arrive_at q f s t e u (Some y) ≡ Err x → (had : D) × (q.clash s e had ≡ Some x)
    at unseen here failed = absurd (err-ok x (set u t (waiting f e)) (sym failed))
    at (waiting g had) here failed = met g had (ap held_by here) failed
    at (done g had) here failed = met g had (ap held_by here) failed

and_then_err : {A B F : Type 0} (o : Result A F) (next : A → Result B F) (x : F) → and_then o next ≡ Err x → (o ≡ Err x) ⊎ ((a : A) × (o ≡ Ok a) × (next a ≡ Err x))
and_then_err (Ok a) next x is = inr (a, refl, is)
and_then_err (Err y) next x is = inl (let same : y ≡ x = cc in ap Err same)

still_named : {D E F : Type 0} (q : Rules D F) → Lawful q → (a : List (ℕ × E)) (f s t : ℕ) (e : D) (u v : Trace D) → length u ≡ length a → Named u a → HasFunction a t f → arrive q f s t e u ≡ Ok v → (length v ≡ length a) × Named v a
still_named q lawful a f s t e u v sized named has arrived =
    elim (arrives q lawful f s t e u v arrived) [
      | inl new ↦ (ap length new.1 ∙ length-set u t (waiting f e) ∙ sized, subst (λ w. Named w a) (sym new.1) (named-written u a t f e new.0 has named))
      | inr had ↦ (ap length had.1 ∙ sized, subst (λ w. Named w a) (sym had.1) named)
    ]

-- a fault of the parts behind the first, or of the environments
one_on : {D F C : Type 0} (p : ℕ × D) (parts : List (Result (ℕ × D) F)) (x : F) → ((k : ℕ) × (slice_get parts k ≡ Some (Err x))) ⊎ C → ((k : ℕ) × (slice_get {X = Result (ℕ × D) F} (Ok p ∷ parts) k ≡ Some (Err x))) ⊎ C
one_on p parts x (inl own) = inl (suc own.0, own.1)
one_on p parts x (inr clash) = inr clash

fails_own : {D E F : Type 0} (q : Rules D F) → Lawful q → (a : List (ℕ × E)) (f s : ℕ) (parts : List (Result (ℕ × D) F)) (u : Trace D) (x : F) → length u ≡ length a → Named u a
    → ((k : ℕ) (p : ℕ × D) → slice_get parts k ≡ Some (Ok p) → HasFunction a p.0 f) → deliver q f s parts u ≡ Err x
    → ((k : ℕ) × (slice_get parts k ≡ Some (Err x))) ⊎ ((given had : D) × (q.clash s given had ≡ Some x))
fails_own q lawful a f s [] u x sized named leads is = absurd (err-ok x u (sym is))
fails_own q lawful a f s (Err y ∷ parts) u x sized named leads is = inl (0, (let same : y ≡ x = cc in ap (λ z. Some (Err z)) same))
fails_own q lawful a f s (Ok p ∷ parts) u x sized named leads is =
    elim (and_then_err (arrive q f s p.0 p.1 u) (deliver q f s parts) x is) [
      | inl failed ↦ (let clash = clashes q a f s p.0 p.1 u x sized named (leads 0 p refl) failed in inr (p.1, clash.0, clash.1))
      | inr later ↦
          let kept = still_named q lawful a f s p.0 p.1 u later.0 sized named (leads 0 p refl) later.1 in
          one_on p parts x (fails_own q lawful a f s parts later.0 x kept.0 kept.1 (λ k p' at. leads (suc k) p' at) later.2)
    ]

-- the whole walk

still_reached : {E F D G : Type 0} (r : Rules E F) (q : Rules D G) → SameShape r q → (s : ℕ) → Reached r s → Reached q s
still_reached r q shape t (entry i s e is) = let there = same_entry r.entries q.entries (sym shape.entries) i s e is in entry i s there.0 there.1
still_reached r q shape u (along k s t reached lead) = along k s t (still_reached r q shape s reached) (ap (λ l. slice_get l k) (shape.leads s) ∙ lead)

own : {E F D G : Type 0} (r : Rules E F) (q : Rules D G) → Lawful r → Lawful q → SameShape r q → (a : List (ℕ × E)) → Annotates r a → (w : State D) → Settled q w → Named w.trace a → (x : G) → Happens q w (stop (Err x)) → IsOwn q x
own r q lawful lawful' shape a fits w settled named x (fails fault d) =
    let has = named d.statement d.function d.env (ap held_by d.waits) in
    let within = statement_within q w (Err x) settled.sized d in
    let sized : length (marked q w (Err x) d) ≡ length a = length-set w.trace d.statement (done d.function d.env) ∙ settled.sized ∙ shape.size ∙ sym fits.long in
    record {
      statement = d.statement;
      function = d.function;
      env = d.env;
      cause = fails_own q lawful' a d.function d.statement (q.flow d.function d.statement d.env) (marked q w (Err x) d) x sized
          (λ t f e is. named t f e (sym (given-marked w.trace d.statement t d.function d.env d.waits) ∙ is))
          (branch_named r q lawful lawful' shape a fits d.function d.statement d.env within has) d.gives;
    }
own r q lawful lawful' shape a fits w settled named x (strays d) =
    let there = same_entry q.entries r.entries shape.entries w.turn d.statement d.env d.next in
    let within = slice_get_within a d.statement (w.turn, there.0) (fits.begins w.turn d.statement there.0 there.1) in
    let seen = inside w.trace d.statement (omega (arith, fits.long, settled.sized, shape.size)) in
    absurd (none-some seen.0 (sym d.there ∙ seen.1))
own r q lawful lawful' shape a fits w settled named x (shares y had held d) =
    let is = ap held_by d.there ∙ held in
    let earlier = (settled.met d.statement had.0 had.1 is).1 in
    let there = same_entry q.entries r.entries shape.entries w.turn d.statement d.env d.next in
    let same = same_function a d.statement had.0 w.turn (named d.statement had.0 had.1 is) (there.0, fits.begins w.turn d.statement there.0 there.1) in
    absurd (omega (arith, earlier))
own r q lawful lawful' shape a fits w settled named x (misses s idle free) =
    let within : s < r.size = omega (arith, slice_get_within w.trace s unseen free, settled.sized, shape.size) in
    let seen = all_seen q lawful' w settled idle s (still_reached r q shape s (fits.reached s within)) in
    absurd (none-some seen.0 (sym (ap held_by free) ∙ seen.1))

pub same_shape : {E F D G : Type 0} (r : Rules E F) (q : Rules D G) → Lawful r → Lawful q → SameShape r q → (a : List (ℕ × E)) → Annotates r a → (x : G) → Stops q (Err x) → IsOwn q x
same_shape r q lawful lawful' shape a fits x stops =
    own r q lawful lawful' shape a fits (after q stops.0) (settled-after q lawful' stops.0) (named_after r q lawful lawful' shape a fits stops.0) x (stops_happens q (Err x) stops.0 stops.1)
