-- Amounts of statements are few, since the locals are.
use Rattle.std.proofs.Common.{◌≡◌, ℕ, zero, suc, ◌+◌, ◌*◌, ◌^◌, ◌<◌, ◌≤◌, List, [], ◌∷◌, length, Option, Some, None, IfSome, Result, Ok, Err, refl, sym, ap, subst, ◌∙◌, arith}
use Rattle.std.specs.List.{slice_get}
use Rattle.std.proofs.lemmas.Option.{none-some, slice_get_within}
use Rattle.sierra_types.specs.declared.program.Program.{Program}
use Rattle.sierra_types.specs.declared.program.Statement.{Statement}
use Rattle.sierra_types.specs.declared.program.Statement.TheVariants.{Invoke, Return}
use Rattle.type_table.specs.View.{TypesView}
use Rattle.libfunc_registry.specs.declared.sig.Sig.{Sig}
use Rattle.statement_walk.specs.Rules.{Rules, Lawful}
use Rattle.statement_walk.specs.Keeps.{Keeps}
use Rattle.statement_walk.specs.Walk.{Seen, unseen, waiting, done, Trace, State, given, done_in, unseen_from, answers, go, stop, after, Stops}
use Rattle.statement_walk.proofs.Ends.{stops_happens}
use Rattle.statement_walk.proofs.Keeping.{AllValid, walk_keeps}
use Rattle.statement_walk.proofs.Settled.{Settled, settled-after}
use Rattle.statement_walk.proofs.Turns.{Happens, ends}
use Rattle.linear_check.specs.Statements.{variables, param_types}
use Rattle.linear_check.specs.Typed.{TypedList}
use Rattle.ap_refs.specs.declared.place.Locals.{Locals}
use Rattle.ap_refs.specs.declared.place.Place.{Place}
use Rattle.ap_refs.specs.Arguments.{taken}
use Rattle.ap_refs.specs.Bounds.{AreFewLocals, most_statements}
use Rattle.ap_refs.specs.Flow.{invoke_fault, return_fault, stepped_parts, taken_parts, invoke_parts, statement_flow, rules}
use Rattle.ap_refs.specs.Locals.{local_step}
use Rattle.ap_refs.specs.Moves.{change}
use Rattle.ap_refs.specs.Placed.{PlacedList, Placed}
use Rattle.ap_refs.specs.Prepared.{IsTypedProgram}
use Rattle.ap_refs.specs.Sized.{IsStep}
use Rattle.ap_refs.proofs.Bounding.{change_short, amount_few, locals_few}
use Rattle.ap_refs.proofs.Entries.{entry_of, entry_at}
use Rattle.ap_refs.proofs.Keeping.{mapped_some, wider_locals, no_fault, stepped_of}
use Rattle.ap_refs.proofs.Lawfulness.{invoked}
use Rattle.ap_refs.proofs.Ready.{signature_of, branches_of, placed_of}
use Rattle.ap_refs.proofs.Through.{lawful, through}

-- what a walk keeps holds of the list that it stops with

answers_are : {E : Type 0} (u : Trace E) (s t : ℕ) → unseen_from s u ≡ None → slice_get (answers u) t ≡ given u t
answers_are [] s t none = refl
answers_are (unseen ∷ u) s t none = absurd (none-some s (sym none))
answers_are (waiting f e ∷ u) s zero none = refl
answers_are (waiting f e ∷ u) s (suc t) none = answers_are u (s + 1) t none
answers_are (done f e ∷ u) s zero none = refl
answers_are (done f e ∷ u) s (suc t) none = answers_are u (s + 1) t none

most_done : {E : Type 0} (u : Trace E) → done_in u ≤ length u
most_done [] = omega arith
most_done (unseen ∷ u) = omega (arith, most_done u)
most_done (waiting f e ∷ u) = omega (arith, most_done u)
most_done (done f e ∷ u) = omega (arith, most_done u)

listed_valid : {E F : Type 0} (r : Rules E F) → Lawful r → (Valid : ℕ → ℕ → E → Type 0) → Keeps r Valid → (a : List (ℕ × E)) → Stops r (Ok a) → (s f : ℕ) (e : E) → slice_get a s ≡ Some (f, e) → (n : ℕ) × (n ≤ r.size) × Valid n s e
listed_valid {E} r lawful Valid keeps a stops s f e is =
    at (after r stops.0) a (settled-after r lawful stops.0) (walk_keeps r lawful Valid keeps stops.0) (stops_happens r (Ok a) stops.0 stops.1) is
  where
    at : (w : State E) (b : List (ℕ × E)) → Settled r w → AllValid Valid (done_in w.trace) w.trace → Happens r w (stop (Ok b)) → slice_get b s ≡ Some (f, e) → (n : ℕ) × (n ≤ r.size) × Valid n s e
    at w b settled all (ends idle none) is =
        (done_in w.trace, omega (arith, most_done w.trace, settled.sized), all s f e (sym (answers_are w.trace 0 s none) ∙ is))

-- the locals stay few

abbrev AreFew : ℕ → ℕ → Place → Type 0
AreFew n s place = AreFewLocals n place.ap place.locals

flow_few : (p : Program) (t : TypesView) (sigs : List Sig) (envs : TypedList) → IsTypedProgram p t sigs envs → (k n s target : ℕ) (place given : Place) (o : Option Statement) → slice_get p.statements s ≡ o
    → AreFew n s place → slice_get (statement_flow p t sigs s place o) k ≡ Some (Ok (target, given)) → AreFew (n + 1) target given
flow_few p t sigs envs program k n s target place given None here few is = absurd (none-some _ is)
flow_few p t sigs envs program k n s target place given (Some (Return args)) here few is =
    absurd (none-some _ (no_fault (return_fault s place (taken args place.cells).0) [] k target given is).1)
flow_few p t sigs envs program k n s target place given (Some (Invoke id args bs)) here few is =
    let inside = slice_get_within p.statements s (Invoke id args bs) here in
    let invokes = (invoked p t sigs envs program.typed s inside id args bs here).2 in
    let sig = invokes.sig in
    let x = taken args place.cells in
    let step = local_step t sig.libfunc place.ap place.locals in
    let known : slice_get (taken_parts t s sig place bs x) k ≡ Some (Ok (target, given)) = ap (λ d. slice_get (invoke_parts t s args bs place d) k) (sym invokes.declared_as) ∙ is in
    let passes = no_fault (invoke_fault s t sig.libfunc x.0 x.1 step) (stepped_parts t s sig place x.0 x.1 bs step) k target given known in
    let part = stepped_of t s sig place x.0 x.1 bs step k target given passes.1 in
    let table = program.types.kept in
    let signature = signature_of p t sigs program.signatures id sig invokes.declared_as in
    let most = branches_of p t sigs envs program s id args bs sig here invokes.declared_as in
    let below = part.4 in
    let is_placed = placed_of t sig table signature in
    let moves = change_short t table sig.libfunc is_placed part.0.1 k (omega (arith, below, most)) in
    subst (AreFew (n + 1) target) (sym part.5) (locals_few t table sig.libfunc is_placed n place.ap place.locals part.0 few part.1 (change t sig.libfunc part.0.1 k) moves)

few_kept : (p : Program) (t : TypesView) (sigs : List Sig) (envs : TypedList) → IsTypedProgram p t sigs envs → Keeps (rules p t sigs) AreFew
few_kept p t sigs envs program = record {
  begins = λ i s e is.
      (let found = mapped_some (entry_of t i) (slice_get p.functions i) (s, e) (sym (entry_at t p.functions 0 i i (omega arith)) ∙ is) in
      let same = ap (λ (x : ℕ × Place). x.1) found.2 in
      subst (AreFew 0 s) same (omega arith));
  flows = λ k n f s target place given inside valid is. flow_few p t sigs envs program k n s target place given (slice_get p.statements s) refl valid is;
  stays = λ n s place valid. wider_locals n place.ap place.locals valid;
}

pub few_amounts : (p : Program) (t : TypesView) (sigs : List Sig) (envs : TypedList) → IsTypedProgram p t sigs envs → (a : PlacedList) → Placed p t sigs a
    → (s : ℕ) (args : List ℕ) (sig : Sig) (place : Place) → IsStep p sigs a s args sig place → (locals : Locals) (amount : ℕ) → local_step t sig.libfunc place.ap place.locals ≡ Some (locals, amount) → amount < 2 ^ 40
few_amounts p t sigs envs program a placed s args sig place step locals amount is =
    let stops = (through p t sigs envs program a).0 placed in
    let valid = listed_valid (rules p t sigs) (lawful p t sigs envs program) AreFew (few_kept p t sigs envs program) a stops s step.function place step.place_at in
    let table = program.types.kept in
    let few = amount_few t table sig.libfunc (placed_of t sig table (signature_of p t sigs program.signatures step.id sig step.signature)) valid.0 place.ap place.locals (locals, amount) valid.2 is in
    let most = program.few in
    let within : valid.0 ≤ most_statements = (let le = valid.1 in omega (arith, le, most)) in
    omega (arith, few, within)
