-- What a turn of the walk is: it goes on by a statement or by a function, it ends, or it fails.
use Rattle.std.proofs.Common.{◌≡◌, ℕ, zero, suc, ◌+◌, [], ◌∷◌, set, Option, Some, None, Result, Ok, Err, refl, sym, ap, ◌∙◌, arith}
use Rattle.std.specs.List.{slice_get}
use Rattle.std.proofs.lemmas.Option.{none-some, same_Some}
use Rattle.statement_walk.specs.Rules.{Rules}
use Rattle.statement_walk.specs.Walk.{Seen, unseen, waiting, done, Trace, State, held_by, deliver, waiting_from, unseen_from, answers, Turn, go, stop, go_on, enter, turn_at, turn_of}

-- the statements that wait, and those that aren't seen

waits_at : {E : Type 0} (xs : Trace E) (s : ℕ) (x : ℕ × ℕ × E) → waiting_from s xs ≡ Some x → (k : ℕ) × (x.0 ≡ s + k) × (slice_get xs k ≡ Some (waiting x.1 x.2))
waits_at [] s x is = absurd (none-some x is)
waits_at (unseen ∷ more) s x is = let later = waits_at more (s + 1) x is in (suc later.0, omega (arith, later.1), later.2)
waits_at (waiting f e ∷ more) s x is = let same = same_Some (s, f, e) x is in (0, omega (arith, ap (λ (y : ℕ × ℕ × _). y.0) same), ap (λ (y : ℕ × ℕ × _). Some (waiting y.1 y.2)) same)
waits_at (done f e ∷ more) s x is = let later = waits_at more (s + 1) x is in (suc later.0, omega (arith, later.1), later.2)

pub waits : {E : Type 0} (u : Trace E) (x : ℕ × ℕ × E) → waiting_from 0 u ≡ Some x → slice_get u x.0 ≡ Some (waiting x.1 x.2)
waits u x is = let at = waits_at u 0 x is in let same : x.0 ≡ at.0 = omega (arith, at.1) in rw same at.2

pub none_waits : {E : Type 0} (xs : Trace E) (s t f : ℕ) (e : E) → waiting_from s xs ≡ None → slice_get xs t ≡ Some (waiting f e) → ⊥
none_waits [] s t f e none is = none-some _ is
none_waits (unseen ∷ more) s zero f e none is = let bad = same_Some _ _ is in cc
none_waits (unseen ∷ more) s (suc t) f e none is = none_waits more (s + 1) t f e none is
none_waits (waiting g d ∷ more) s t f e none is = none-some _ (sym none)
none_waits (done g d ∷ more) s zero f e none is = let bad = same_Some _ _ is in cc
none_waits (done g d ∷ more) s (suc t) f e none is = none_waits more (s + 1) t f e none is

unseen_at : {E : Type 0} (xs : Trace E) (s q : ℕ) → unseen_from s xs ≡ Some q → (k : ℕ) × (q ≡ s + k) × (slice_get xs k ≡ Some unseen)
unseen_at [] s q is = absurd (none-some q is)
unseen_at (unseen ∷ more) s q is = (0, omega (arith, same_Some s q is), refl)
unseen_at (waiting f e ∷ more) s q is = let later = unseen_at more (s + 1) q is in (suc later.0, omega (arith, later.1), later.2)
unseen_at (done f e ∷ more) s q is = let later = unseen_at more (s + 1) q is in (suc later.0, omega (arith, later.1), later.2)

pub is_unseen : {E : Type 0} (u : Trace E) (q : ℕ) → unseen_from 0 u ≡ Some q → slice_get u q ≡ Some unseen
is_unseen u q is = let at = unseen_at u 0 q is in let same : q ≡ at.0 = omega (arith, at.1) in rw same at.2

pub none_unseen : {E : Type 0} (xs : Trace E) (s t : ℕ) → unseen_from s xs ≡ None → slice_get xs t ≡ Some unseen → ⊥
none_unseen [] s t none is = none-some _ is
none_unseen (unseen ∷ more) s t none is = none-some _ (sym none)
none_unseen (waiting g d ∷ more) s zero none is = let bad = same_Some _ _ is in cc
none_unseen (waiting g d ∷ more) s (suc t) none is = none_unseen more (s + 1) t none is
none_unseen (done g d ∷ more) s zero none is = let bad = same_Some _ _ is in cc
none_unseen (done g d ∷ more) s (suc t) none is = none_unseen more (s + 1) t none is

-- a turn

pub turn-waiting : {E F : Type 0} (r : Rules E F) (w : State E) (x : ℕ × ℕ × E) → waiting_from 0 w.trace ≡ Some x → turn_of r w ≡ go_on w.turn (deliver r x.1 x.0 (r.flow x.1 x.0 x.2) (set w.trace x.0 (done x.1 x.2)))
unfolding turn_of
turn-waiting r w x is = ap (λ o. turn_at r w o (slice_get r.entries w.turn) (unseen_from 0 w.trace)) is

pub turn-entering : {E F : Type 0} (r : Rules E F) (w : State E) (x : ℕ × E) → waiting_from 0 w.trace ≡ None → slice_get r.entries w.turn ≡ Some x → turn_of r w ≡ enter r w x.0 x.1 (slice_get w.trace x.0)
unfolding turn_of
turn-entering r w x idle is = ap (λ o. turn_at r w o (slice_get r.entries w.turn) (unseen_from 0 w.trace)) idle ∙ ap (λ o. turn_at r w None o (unseen_from 0 w.trace)) is

pub turn-missing : {E F : Type 0} (r : Rules E F) (w : State E) (s : ℕ) → waiting_from 0 w.trace ≡ None → slice_get r.entries w.turn ≡ None → unseen_from 0 w.trace ≡ Some s → turn_of r w ≡ stop (Err (r.unreached s))
unfolding turn_of
turn-missing r w s idle entered is = ap (λ o. turn_at r w o (slice_get r.entries w.turn) (unseen_from 0 w.trace)) idle ∙ ap (λ o. turn_at r w None o (unseen_from 0 w.trace)) entered ∙ ap (turn_at r w None None) is

pub turn-ending : {E F : Type 0} (r : Rules E F) (w : State E) → waiting_from 0 w.trace ≡ None → slice_get r.entries w.turn ≡ None → unseen_from 0 w.trace ≡ None → turn_of r w ≡ stop (Ok (answers w.trace))
unfolding turn_of
turn-ending r w idle entered is = ap (λ o. turn_at r w o (slice_get r.entries w.turn) (unseen_from 0 w.trace)) idle ∙ ap (λ o. turn_at r w None o (unseen_from 0 w.trace)) entered ∙ ap (turn_at r w None None) is

-- a statement's turn
pub record Delivers {E F : Type 0} (r : Rules E F) (w : State E) (result : Result (Trace E) F) : Type 0 where
  pub statement : ℕ
  pub function : ℕ
  pub env : E
  pub waits : slice_get w.trace statement ≡ Some (waiting function env)
  pub gives : deliver r function statement (r.flow function statement env) (set w.trace statement (done function env)) ≡ result

-- a function's turn
pub record Enters {E F : Type 0} (r : Rules E F) (w : State E) (found : Option (Seen E)) : Type 0 where
  pub statement : ℕ
  pub env : E
  pub idle : waiting_from 0 w.trace ≡ None
  pub next : slice_get r.entries w.turn ≡ Some (statement, env)
  pub there : slice_get w.trace statement ≡ found

-- neither a statement waits nor is there another function
pub record Idle {E F : Type 0} (r : Rules E F) (w : State E) : Type 0 where
  pub idle : waiting_from 0 w.trace ≡ None
  pub entered : slice_get r.entries w.turn ≡ None

-- what a turn is, by its outcome
pub data Happens {E F : Type 0} (r : Rules E F) (w : State E) : Turn E F → Type 0 where
  delivers : (trace : Trace E) → Delivers r w (Ok trace) → Happens r w (go (record { trace = trace; turn = w.turn }))
  fails : (x : F) → Delivers r w (Err x) → Happens r w (stop (Err x))
  enters : (e : Enters r w (Some unseen)) → Happens r w (go (record { trace = set w.trace e.statement (waiting w.turn e.env); turn = w.turn + 1 }))
  strays : (e : Enters r w None) → Happens r w (stop (Err (r.stray e.statement)))
  shares : (y : Seen E) (had : ℕ × E) → held_by (Some y) ≡ Some had → (e : Enters r w (Some y)) → Happens r w (stop (Err (r.shared_entry e.statement)))
  misses : (s : ℕ) → Idle r w → slice_get w.trace s ≡ Some unseen → Happens r w (stop (Err (r.unreached s)))
  ends : Idle r w → unseen_from 0 w.trace ≡ None → Happens r w (stop (Ok (answers w.trace)))

pub happens : {E F : Type 0} (r : Rules E F) (w : State E) → Happens r w (turn_of r w)
unfolding turn_of
happens {E} {F} r w = at (waiting_from 0 w.trace) (slice_get r.entries w.turn) (unseen_from 0 w.trace) refl refl refl
  where
    delivered : (x : ℕ × ℕ × E) (result : Result (Trace E) F) → waiting_from 0 w.trace ≡ Some x → deliver r x.1 x.0 (r.flow x.1 x.0 x.2) (set w.trace x.0 (done x.1 x.2)) ≡ result → Happens r w (go_on w.turn result)
    delivered x (Ok trace) is gives = delivers trace (record { statement = x.0; function = x.1; env = x.2; waits = waits w.trace x is; gives = gives })
    delivered x (Err fault) is gives = fails fault (record { statement = x.0; function = x.1; env = x.2; waits = waits w.trace x is; gives = gives })

    entering : (x : ℕ × E) (found : Option (Seen E)) → waiting_from 0 w.trace ≡ None → slice_get r.entries w.turn ≡ Some x → slice_get w.trace x.0 ≡ found → Happens r w (enter r w x.0 x.1 found)
    entering x None idle next there = strays (record { statement = x.0; env = x.1; idle = idle; next = next; there = there })
    entering x (Some unseen) idle next there = enters (record { statement = x.0; env = x.1; idle = idle; next = next; there = there })
    entering x (Some (waiting f e)) idle next there = shares (waiting f e) (f, e) refl (record { statement = x.0; env = x.1; idle = idle; next = next; there = there })
    entering x (Some (done f e)) idle next there = shares (done f e) (f, e) refl (record { statement = x.0; env = x.1; idle = idle; next = next; there = there })

    at : (o : Option (ℕ × ℕ × E)) (next : Option (ℕ × E)) (missing : Option ℕ) → waiting_from 0 w.trace ≡ o → slice_get r.entries w.turn ≡ next → unseen_from 0 w.trace ≡ missing → Happens r w (turn_at r w o next missing)
    at (Some x) next missing is n m = delivered x _ is refl
    at None (Some x) missing idle n m = entering x _ idle n refl
    at None None (Some s) idle n m = misses s (record { idle = idle; entered = n }) (is_unseen w.trace s m)
    at None None None idle n m = ends (record { idle = idle; entered = n }) m
