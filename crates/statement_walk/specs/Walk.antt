-- The walk. It takes the functions in declared order, and in each one always the least statement that is reached and not
-- done.
use Rattle.std.specs.Prelude.{◌≡◌, ℕ, zero, suc, ◌+◌, ◌==◌, List, [], ◌∷◌, replicate, slice_set, Option, Some, None, Result, Ok, Err, if◌then◌else◌}
use Rattle.std.specs.List.{slice_get}
use Rattle.statement_walk.specs.Rules.{Rules}

-- What a statement has: nothing yet; or its function and its environment, and it waits for its turn or is done.
pub data Seen (E : Type 0) : Type 0 where
  unseen : Seen E
  waiting : ℕ → E → Seen E
  done : ℕ → E → Seen E

-- what each statement has
abbrev pub Trace : Type 0 → Type 0
Trace E = List (Seen E)

-- a trace, and how many functions were entered
pub record State (E : Type 0) : Type 0 where
  pub trace : Trace E
  pub turn : ℕ

-- function and environment of a statement that is seen
abbrev pub held_by : {E : Type 0} → Option (Seen E) → Option (ℕ × E)
held_by None = None
held_by (Some unseen) = None
held_by (Some (waiting f e)) = Some (f, e)
held_by (Some (done f e)) = Some (f, e)

abbrev pub given : {E : Type 0} → Trace E → ℕ → Option (ℕ × E)
given trace s = held_by (slice_get trace s)

-- how many statements are done
abbrev pub done_in : {E : Type 0} → Trace E → ℕ
done_in [] = 0
done_in (unseen ∷ more) = done_in more
done_in (waiting f e ∷ more) = done_in more
done_in (done f e ∷ more) = 1 + done_in more

-- Passes where there is no fault.
abbrev pub unless : {A F : Type 0} → Option F → A → Result A F
unless None a = Ok a
unless (Some x) a = Err x

abbrev pub and_then : {A B F : Type 0} → Result A F → (A → Result B F) → Result B F
and_then (Ok a) next = next a
and_then (Err x) next = Err x

-- A branch of statement s of function f leads with the environment e to a statement that has function g already.
abbrev pub meet : {E F : Type 0} → Rules E F → ℕ → ℕ → E → ℕ → E → Trace E → Result (Trace E) F
meet r f s e g had trace = if g == f then unless (r.clash s e had) trace else Err (r.shared s)

-- What a branch of statement s of function f does at t, where it leads with the environment e.
abbrev pub arrive_at : {E F : Type 0} → Rules E F → ℕ → ℕ → ℕ → E → Trace E → Option (Seen E) → Result (Trace E) F
arrive_at r f s t e trace None = Err (r.stray t)
arrive_at r f s t e trace (Some unseen) = Ok (slice_set trace t (waiting f e))
arrive_at r f s t e trace (Some (waiting g had)) = meet r f s e g had trace
arrive_at r f s t e trace (Some (done g had)) = meet r f s e g had trace

abbrev pub arrive : {E F : Type 0} → Rules E F → ℕ → ℕ → ℕ → E → Trace E → Result (Trace E) F
arrive r f s t e trace = arrive_at r f s t e trace (slice_get trace t)

-- All branches of a statement arrive, one after another.
abbrev pub deliver : {E F : Type 0} → Rules E F → ℕ → ℕ → List (Result (ℕ × E) F) → Trace E → Result (Trace E) F
deliver r f s [] trace = Ok trace
deliver r f s (Err x ∷ parts) trace = Err x
deliver r f s (Ok p ∷ parts) trace = and_then (arrive r f s p.0 p.1 trace) (deliver r f s parts)

-- the least statement that waits, counted from s, with its function and its environment
abbrev pub waiting_from : {E : Type 0} → ℕ → Trace E → Option (ℕ × ℕ × E)
waiting_from s [] = None
waiting_from s (unseen ∷ more) = waiting_from (s + 1) more
waiting_from s (waiting f e ∷ more) = Some (s, f, e)
waiting_from s (done f e ∷ more) = waiting_from (s + 1) more

-- the least statement that isn't seen, counted from s
abbrev pub unseen_from : {E : Type 0} → ℕ → Trace E → Option ℕ
unseen_from s [] = None
unseen_from s (unseen ∷ more) = Some s
unseen_from s (waiting f e ∷ more) = unseen_from (s + 1) more
unseen_from s (done f e ∷ more) = unseen_from (s + 1) more

-- function and environment of all statements that are seen, in order
abbrev pub answers : {E : Type 0} → Trace E → List (ℕ × E)
answers [] = []
answers (unseen ∷ more) = answers more
answers (waiting f e ∷ more) = (f, e) ∷ answers more
answers (done f e ∷ more) = (f, e) ∷ answers more

-- The walk goes on, or it stops with its list or with a fault.
pub data Turn (E F : Type 0) : Type 0 where
  go : State E → Turn E F
  stop : Result (List (ℕ × E)) F → Turn E F

-- The statement whose turn it is has given its branches what they have.
abbrev pub go_on : {E F : Type 0} → ℕ → Result (Trace E) F → Turn E F
go_on turn (Ok trace) = go (record { trace = trace; turn = turn })
go_on turn (Err x) = stop (Err x)

-- The next function begins at s with the environment e.
abbrev pub enter : {E F : Type 0} → Rules E F → State E → ℕ → E → Option (Seen E) → Turn E F
enter r w s e None = stop (Err (r.stray s))
enter r w s e (Some unseen) = go (record { trace = slice_set w.trace s (waiting w.turn e); turn = w.turn + 1 })
enter r w s e (Some (waiting f had)) = stop (Err (r.shared_entry s))
enter r w s e (Some (done f had)) = stop (Err (r.shared_entry s))

-- The first that is there: a statement that waits, a function, a statement that isn't seen.
abbrev pub turn_at : {E F : Type 0} → Rules E F → State E → Option (ℕ × ℕ × E) → Option (ℕ × E) → Option ℕ → Turn E F
turn_at r w (Some x) next missing = go_on w.turn (deliver r x.1 x.0 (r.flow x.1 x.0 x.2) (slice_set w.trace x.0 (done x.1 x.2)))
turn_at r w None (Some x) missing = enter r w x.0 x.1 (slice_get w.trace x.0)
turn_at r w None None (Some s) = stop (Err (r.unreached s))
turn_at r w None None None = stop (Ok (answers w.trace))

-- What comes next: the least statement that waits; else the next function; else the end.
unfoldable pub turn_of : {E F : Type 0} → Rules E F → State E → Turn E F
turn_of r w = turn_at r w (waiting_from 0 w.trace) (slice_get r.entries w.turn) (unseen_from 0 w.trace)

-- Behind a stop nothing changes.
abbrev pub next_of : {E F : Type 0} → Turn E F → State E → State E
next_of (go v) w = v
next_of (stop x) w = w

-- no statement is seen and no function entered
abbrev pub start : {E F : Type 0} → Rules E F → State E
start r = record { trace = replicate r.size unseen; turn = 0 }

-- after so many turns
unfoldable pub after : {E F : Type 0} → Rules E F → ℕ → State E
after r zero = start r
after r (suc n) = next_of (turn_of r (after r n)) (after r n)

-- How the walk stops. Where it stops with a fault, that is the first one: the rule that keeps the longest walk from its
-- next statement.
abbrev pub Stops : {E F : Type 0} → Rules E F → Result (List (ℕ × E)) F → Type 0
Stops r x = (n : ℕ) × (turn_of r (after r n) ≡ stop x)
