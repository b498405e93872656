-- The steps of the driver are the turns of the walk.
use Rattle.std.proofs.Common.{◌≡◌, ℕ, suc, ◌+◌, ◌<◌, ◌≤◌, false, List, [], ◌∷◌, length, set, replicate, Option, Some, None, IsSome, is_some, Result, Ok, Err, Bor, refl, sym, ap, subst, ◌∙◌, arith, inl, inr}
use Rattle.std.proofs.Math.ListN.{length-set}
use Rattle.std.specs.List.{slice_get}
use Rattle.std.specs.Option.{option_copied}
use Rattle.std.specs.Result.{IsErrAnd, IfErr}
use Rattle.std.proofs.lemmas.Bool.{false≢true}
use Rattle.std.proofs.lemmas.Option.{none-some, slice_get_past, some_pair_parts}
use Rattle.statement_walk.specs.Rules.{Rules, Lawful, AreParts}
use Rattle.statement_walk.specs.Keeps.{Keeps}
use Rattle.statement_walk.specs.Branches.{AreFirst, StopsWith}
use Rattle.statement_walk.specs.Turning.{Comes, Turns, IsState, AreInside, parts_of}
use Rattle.statement_walk.specs.Walk.{Seen, unseen, waiting, done, Trace, State, given, held_by, and_then, arrive, deliver, waiting_from, unseen_from, answers, go, stop, go_on, enter, turn_of, after, done_in, Stops}
use Rattle.statement_walk.specs.declared.rules.WalkFault.{WalkFault}
use Rattle.statement_walk.specs.declared.rules.WalkFault.TheVariants.{Rule, Memory}
use Rattle.statement_walk.proofs.Arrivals.{inside, slice_get-set_same}
use Rattle.statement_walk.proofs.Keeping.{walk_keeps, few_done}
use Rattle.statement_walk.proofs.Left.{left, left_falls}
use Rattle.statement_walk.proofs.Settled.{settled-after}
use Rattle.statement_walk.proofs.Stopping.{after-go}
use Rattle.statement_walk.proofs.Turns.{waits, Happens, happens, turn-waiting, turn-entering, turn-missing, turn-ending}

pub copied_some : {A : Type 0} (r : Option (Bor A)) (o : Option A) → option_copied r ≡ o → IsSome o → IsSome r
copied_some None o is some = absurd (false≢true (rw (← is) at some))
copied_some (Some x) o is some = refl

pub some_copied : {A : Type 0} (r : Option (Bor A)) (o : Option A) → option_copied r ≡ o → IsSome r → IsSome o
some_copied None o is some = absurd (false≢true some)
some_copied (Some x) o is some = rw (← is) refl

pub none_copied : {A : Type 0} (r : Option (Bor A)) (o : Option A) → option_copied r ≡ o → is_some r ≡ false → o ≡ None
none_copied None o is none = sym is
none_copied (Some x) o is none = absurd (false≢true (sym none))

-- a function begins

enter_seen : {E F : Type 0} (r : Rules E F) (w : State E) (s : ℕ) (e : E) (x : ℕ × E) (o : Option (Seen E)) → held_by o ≡ Some x → enter r w s e o ≡ stop (Err (r.shared_entry s))
enter_seen r w s e x None has = absurd (none-some x has)
enter_seen r w s e x (Some unseen) has = absurd (none-some x has)
enter_seen r w s e x (Some (waiting f d)) has = refl
enter_seen r w s e x (Some (done f d)) has = refl

pub free_there : {E : Type 0} (u : Trace E) (s : ℕ) → s < length u → given u s ≡ None → slice_get u s ≡ Some unseen
free_there {E} u s lt none = let there = inside u s lt in there.1 ∙ ap Some (at there.0 (sym (ap held_by there.1) ∙ none))
  where
    at : (y : Seen E) → held_by (Some y) ≡ None → y ≡ unseen
    at unseen is = refl
    at (waiting f e) is = absurd (none-some (f, e) (sym is))
    at (done f e) is = absurd (none-some (f, e) (sym is))

pub entry_strays : {E F : Type 0} (r : Rules E F) (u : Trace E) (turn s : ℕ) (e : E) (x : F) → waiting_from 0 u ≡ None → slice_get r.entries turn ≡ Some (s, e) → length u ≤ s → x ≡ r.stray s
    → turn_of r (record { trace = u; turn = turn }) ≡ stop (Err x)
entry_strays r u turn s e x idle next past is =
    let w : State _ = record { trace = u; turn = turn } in
    turn-entering r w (s, e) idle next ∙ ap (enter r w s e) (slice_get_past u s past) ∙ ap (λ y. stop (Err y)) (sym is)

pub entry_shared : {E F : Type 0} (r : Rules E F) (u : Trace E) (turn s : ℕ) (e : E) (x : F) → waiting_from 0 u ≡ None → slice_get r.entries turn ≡ Some (s, e) → IsSome (given u s) → x ≡ r.shared_entry s
    → turn_of r (record { trace = u; turn = turn }) ≡ stop (Err x)
entry_shared {E} r u turn s e x idle next some is =
    let w : State E = record { trace = u; turn = turn } in
    turn-entering r w (s, e) idle next ∙ seen (given u s) refl some ∙ ap (λ y. stop (Err y)) (sym is)
  where
    seen : (o : Option (ℕ × E)) → given u s ≡ o → IsSome o → enter r (record { trace = u; turn = turn }) s e (slice_get u s) ≡ stop (Err (r.shared_entry s))
    seen None here some = absurd (false≢true some)
    seen (Some y) here some = enter_seen r (record { trace = u; turn = turn }) s e y (slice_get u s) here

pub entry_begins : {E F : Type 0} (r : Rules E F) (u v : Trace E) (turn s : ℕ) (e : E) → waiting_from 0 u ≡ None → slice_get r.entries turn ≡ Some (s, e) → slice_get u s ≡ Some unseen → v ≡ set u s (waiting turn e)
    → turn_of r (record { trace = u; turn = turn }) ≡ go (record { trace = v; turn = turn + 1 })
entry_begins r u v turn s e idle next free is =
    let w : State _ = record { trace = u; turn = turn } in
    turn-entering r w (s, e) idle next ∙ ap (enter r w s e) free ∙ ap (λ t. go (record { trace = t; turn = turn + 1 })) (sym is)

-- the end

pub ends_missing : {E F : Type 0} (r : Rules E F) (u : Trace E) (turn s : ℕ) (x : F) → IsState r u turn → waiting_from 0 u ≡ None → slice_get r.entries turn ≡ None → unseen_from 0 u ≡ Some s → x ≡ r.unreached s → Stops r (Err x)
ends_missing r u turn s x state idle entered missing is =
    (state.0, ap (turn_of r) state.1 ∙ turn-missing r (record { trace = u; turn = turn }) s idle entered missing ∙ ap (λ y. stop (Err y)) (sym is))

pub ends_listed : {E F : Type 0} (r : Rules E F) (u : Trace E) (turn : ℕ) (list : List (ℕ × E)) → IsState r u turn → waiting_from 0 u ≡ None → slice_get r.entries turn ≡ None → (unseen_from 0 u ≡ None) × (list ≡ answers u) → Stops r (Ok list)
ends_listed r u turn list state idle entered is =
    (state.0, ap (turn_of r) state.1 ∙ turn-ending r (record { trace = u; turn = turn }) idle entered is.0 ∙ ap (λ l. stop (Ok l)) (sym is.1))

-- the branches of a statement

same_and_then : {A B F : Type 0} (o : Result A F) (x y : A → Result B F) → ((a : A) → x a ≡ y a) → and_then o x ≡ and_then o y
same_and_then (Ok a) x y same = same a
same_and_then (Err e) x y same = refl

pub deliver_first : {E F : Type 0} (r : Rules E F) (f s : ℕ) (ps : List (ℕ × E)) (fault : Option F) (parts : List (Result (ℕ × E) F)) (u : Trace E) → AreFirst ps fault parts → deliver r f s (parts_of ps fault) u ≡ deliver r f s parts u
deliver_first r f s [] None [] u are = refl
deliver_first r f s [] None (part ∷ parts) u are = absurd are
deliver_first r f s [] (Some x) [] u are = absurd are
deliver_first r f s [] (Some x) (Ok p ∷ parts) u are = absurd are
deliver_first r f s [] (Some x) (Err y ∷ parts) u are = ap Err are
deliver_first r f s (p ∷ ps) fault [] u are = absurd are
deliver_first r f s (p ∷ ps) fault (Err y ∷ parts) u are = absurd are
deliver_first r f s (p ∷ ps) fault (Ok q ∷ parts) u are =
    ap (λ x. and_then (arrive r f s x.0 x.1 u) (deliver r f s (parts_of ps fault))) are.0
    ∙ same_and_then (arrive r f s q.0 q.1 u) (deliver r f s (parts_of ps fault)) (deliver r f s parts) (λ v. deliver_first r f s ps fault parts v are.1)

parts_inside : {E F : Type 0} (size : ℕ) (ts : List ℕ) (ps : List (ℕ × E)) (fault : Option F) (parts : List (Result (ℕ × E) F)) → AreParts size ts parts → AreFirst ps fault parts → AreInside size ps
parts_inside size ts [] fault parts are first = tt
parts_inside size ts (p ∷ ps) fault [] are first = absurd first
parts_inside size ts (p ∷ ps) fault (Err x ∷ parts) are first = absurd first
parts_inside size [] (p ∷ ps) fault (Ok q ∷ parts) are first = absurd are
parts_inside size (t ∷ ts) (p ∷ ps) fault (Ok q ∷ parts) are first =
    (omega (arith, are.0, are.1, ap (λ (x : ℕ × _). x.0) first.0), parts_inside size ts ps fault parts are.2 first.1)

first_alone : {E F : Type 0} (size : ℕ) (ps : List (ℕ × E)) (fault : Option F) (x : F) → AreFirst ps fault (Err x ∷ []) → AreInside size ps
first_alone size [] fault x first = tt
first_alone size (p ∷ ps) fault x first = absurd first

pub flow_inside : {E F : Type 0} (r : Rules E F) → Lawful r → (f s : ℕ) (e : E) (ps : List (ℕ × E)) (fault : Option F) → s < r.size → AreFirst ps fault (r.flow f s e) → AreInside r.size ps
flow_inside r lawful f s e ps fault lt first =
    elim (lawful.flows f s e lt) [
      | inl alone ↦ first_alone r.size ps fault alone.0 (rw alone.1 at first)
      | inr are ↦ parts_inside r.size (r.leads s) ps fault (r.flow f s e) are first
    ]

-- what is delivered for the environment of the statement
pub delivered : {E F : Type 0} (r : Rules E F) (f s g : ℕ) (e d : E) (ps : List (ℕ × E)) (fault : Option F) (u v : Trace E) (result : Result (Unit {0}) (WalkFault F)) → given u s ≡ Some (f, e) → given u s ≡ Some (g, d) → AreFirst ps fault (r.flow f s d)
    → Comes (deliver r f s (parts_of ps fault) u) result v → Comes (deliver r f s (r.flow f s e) u) result v
delivered r f s g e d ps fault u v result has had first comes =
    let same = (some_pair_parts g f d e (sym had ∙ has)).1 in
    subst (λ work. Comes work result v) (deliver_first r f s ps fault (r.flow f s d) u first ∙ ap (λ x. deliver r f s (r.flow f s x) u) same) comes

-- a state that the walk comes to

pub state_sized : {E F : Type 0} (r : Rules E F) → Lawful r → (u : Trace E) (turn : ℕ) → IsState r u turn → length u ≡ r.size
state_sized {E} r lawful u turn state = ap (λ (w : State E). length w.trace) (sym state.1) ∙ (settled-after r lawful state.0).sized

-- what a statement has whose turn it is
pub state_valid : {E F : Type 0} (r : Rules E F) → Lawful r → (Valid : ℕ → ℕ → E → Type 0) → Keeps r Valid → (u : Trace E) (turn s f : ℕ) (e : E) → IsState r u turn → waiting_from 0 u ≡ Some (s, f, e)
    → (n : ℕ) × (n < r.size) × Valid n s e
state_valid {E} r lawful Valid keeps u turn s f e state next =
    let waiting_there = waits u (s, f, e) next in
    let all : (q g : ℕ) (d : E) → given u q ≡ Some (g, d) → Valid (done_in u) q d = subst (λ (w : State E). (q g : ℕ) (d : E) → given w.trace q ≡ Some (g, d) → Valid (done_in w.trace) q d) state.1 (walk_keeps r lawful Valid keeps state.0) in
    (done_in u, omega (arith, few_done u s f e waiting_there, state_sized r lawful u turn state), all s f e (ap held_by waiting_there))

pub marked_has : {E : Type 0} (u v : Trace E) (s f : ℕ) (e : E) → waiting_from 0 u ≡ Some (s, f, e) → v ≡ set u s (done f e) → given v s ≡ Some (f, e)
marked_has u v s f e next is = ap (λ t. given t s) is ∙ ap held_by (slice_get-set_same u s (waiting f e) (done f e) (waits u (s, f, e) next))

-- a statement's turn, from the trace where it is marked
pub statement_turns : {E F : Type 0} (r : Rules E F) (u v later : Trace E) (turn s f : ℕ) (e : E) (result : Result (Unit {0}) (WalkFault F)) → waiting_from 0 u ≡ Some (s, f, e) → v ≡ set u s (done f e)
    → Comes (deliver r f s (r.flow f s e) v) result later → Turns r u turn result later turn
statement_turns {E} r u v later turn s f e (Ok unit) next is comes =
    let w : State E = record { trace = u; turn = turn } in
    turn-waiting r w (s, f, e) next ∙ ap (λ t. go_on turn (deliver r f s (r.flow f s e) t)) (sym is) ∙ ap (go_on turn) comes
statement_turns {E} r u v later turn s f e (Err (Rule x)) next is comes =
    let w : State E = record { trace = u; turn = turn } in
    turn-waiting r w (s, f, e) next ∙ ap (λ t. go_on turn (deliver r f s (r.flow f s e) t)) (sym is) ∙ ap (go_on turn) comes
statement_turns r u v later turn s f e (Err Memory) next is comes = tt

pub next_state : {E F : Type 0} (r : Rules E F) (u later : Trace E) (turn next : ℕ) → IsState r u turn → turn_of r (record { trace = u; turn = turn }) ≡ go (record { trace = later; turn = next }) → IsState r later next
next_state r u later turn next state turns = (suc state.0, after-go r state.0 (record { trace = later; turn = next }) (ap (turn_of r) state.1 ∙ turns))

pub turn_falls : {E F : Type 0} (r : Rules E F) → Lawful r → (u later : Trace E) (turn next : ℕ) → turn_of r (record { trace = u; turn = turn }) ≡ go (record { trace = later; turn = next })
    → left r (record { trace = later; turn = next }) < left r (record { trace = u; turn = turn })
turn_falls {E} r lawful u later turn next turns =
    let w : State E = record { trace = u; turn = turn } in
    left_falls r lawful w (record { trace = later; turn = next }) (subst (Happens r w) turns (happens r w))

pub turn_stops : {E F : Type 0} (r : Rules E F) (u later : Trace E) (turn next : ℕ) (fault : WalkFault F) → IsState r u turn → Turns r u turn (Err fault) later next → StopsWith r fault
turn_stops r u later turn next (Rule x) state turns = (state.0, ap (turn_of r) state.1 ∙ turns)
turn_stops r u later turn next Memory state turns = tt

pub start_state : {E F : Type 0} (r : Rules E F) (u : Trace E) (n : ℕ) → u ≡ replicate n unseen → n ≡ r.size → IsState r u 0
unfolding after
start_state r u n is same = (0, ap (λ t. record { trace = t; turn = 0 }) (sym (is ∙ ap (λ k. replicate k unseen) same)))

pub marked_sized : {E F : Type 0} (r : Rules E F) → Lawful r → (u v : Trace E) (turn s f : ℕ) (e : E) → IsState r u turn → v ≡ set u s (done f e) → length v ≡ r.size
marked_sized r lawful u v turn s f e state is = ap length is ∙ length-set u s (done f e) ∙ state_sized r lawful u turn state

-- what a fault of a turn says of the walk
pub stops_with : {A E F : Type 0} (r : Rules E F) (fault : WalkFault F) (result : Result A (WalkFault F)) → StopsWith r fault → IsErrAnd result (λ y. y ≡ fault) → IfErr result (StopsWith r)
stops_with r fault (Ok a) stops is = tt
stops_with r fault (Err y) stops is = subst (StopsWith r) (sym is) stops

-- nothing waited, so the trace is the one before
pub entry_turns : {E F : Type 0} (r : Rules E F) (u v later : Trace E) (turn next : ℕ) → v ≡ u → turn_of r (record { trace = v; turn = turn }) ≡ go (record { trace = later; turn = next })
    → turn_of r (record { trace = u; turn = turn }) ≡ go (record { trace = later; turn = next })
entry_turns r u v later turn next same turns = ap (λ t. turn_of r (record { trace = t; turn = turn })) (sym same) ∙ turns
