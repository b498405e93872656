-- The turns of the evaluator over places: what it may ask of the values that it holds, and what its steps come to.
use Rattle.std.proofs.Common.{◌≡◌, ℕ, ◌+◌, ◌<◌, List, [], ◌∷◌, ◌++◌, length, get_or, map, reverse, Some, None, Result, Ok, Err, OnOk, refl, sym, ap, subst, ◌∙◌, arith}
use Rattle.std.specs.List.{slice_get, zip}
use Rattle.std.proofs.lemmas.List.{reverse-append, map-append}
use Rattle.std.proofs.lemmas.Option.{slice_get_within, get_or_from_slice_get}
use Rattle.sierra_types.specs.declared.program.Program.{Program}
use Rattle.sierra_types.specs.declared.program.Statement.{Statement}
use Rattle.sierra_types.specs.declared.program.Statement.TheVariants.{Invoke, Return}
use Rattle.sierra_types.specs.declared.program.Branch.{Branch}
use Rattle.type_table.specs.View.{TypesView}
use Rattle.libfunc_registry.specs.declared.sig.Sig.{Sig}
use Rattle.libfunc_registry.specs.Fam.{fam_of}
use Rattle.held_list.specs.Held.{Held}
use Rattle.held_list.specs.Editing.{take_all, add_all}
use Rattle.gas_solver.specs.Accepting.{AcceptedView}
use Rattle.gas_solver.specs.Terms.{terms_from}
use Rattle.value_trees.specs.Meant.{meant}
use Rattle.value_trees.specs.Val.{Plain}
use Rattle.value_trees.specs.declared.value.Value.{Value}
use Rattle.libfunc_meaning.specs.Dictionaries.{mapped}
use Rattle.sierra_meaning.specs.Acts.{Acts, Goes, Calls, callee_of, begins_at}
use Rattle.sierra_meaning.specs.Evaluating.{Caller, mapped_held, After, IsStacked, IsTurn}
use Rattle.sierra_meaning.specs.Facts.{IsGood}
use Rattle.sierra_meaning.specs.Mean.{returns}
use Rattle.sierra_meaning.specs.Measured.{running_of}
use Rattle.sierra_meaning.specs.Turns.{IsReady, Place, Stands, Turns, Ends, CanGo, meant_caller, meant_callers, caller_of}
use Rattle.sierra_meaning.specs.declared.turns.Caller as code
use Rattle.sierra_meaning.proofs.Evaluated.{good_here, after_end, turn_return}
use Rattle.sierra_meaning.proofs.HeldValues.{ok_same}
use Rattle.sierra_meaning.proofs.MappedBack.{take_all_back, add_all_back}
use Rattle.sierra_meaning.proofs.MappedValues.{take_all_mapped}
use Rattle.sierra_meaning.proofs.ProgramFacts.{facts}
use Rattle.sierra_meaning.proofs.Turning.{Asks, asks, return_taken, can_go, can_call, goes_turn, calls_turn}
use Rattle.sierra_meaning.proofs.Weighed.{all_weigh}

terms_long : (p : Program) (t : TypesView) (sigs : List Sig) (s : ℕ) (statements : List Statement) → length (terms_from p t sigs s statements) ≡ length statements
terms_long p t sigs s [] = refl
terms_long p t sigs s (statement ∷ more) = let rest = terms_long p t sigs (s + 1) more in omega arith

-- one caller more at the end of the list waits before the others
pub one_more : (callers : List (Caller Value)) (c : Caller Value) → meant_callers (callers ++ c ∷ []) ≡ meant_caller c ∷ meant_callers callers
one_more callers c = ap reverse (map-append meant_caller callers (c ∷ [])) ∙ reverse-append (map meant_caller callers) (meant_caller c ∷ [])

module _ (a : AcceptedView) (positions : List ℕ) (ready : IsReady a positions) where
  -- the place is known by its parts
  pub turns_to : (p q : Place) (at : ℕ) (env : Held Value) (callers : List (Caller Value)) → q.at ≡ at → q.env ≡ env → q.callers ≡ callers → Turns a p (record { at = at; env = env; callers = callers }) → Turns a p q
  turns_to p q at env callers one two three turns =
      subst (λ (n : ℕ). Turns a p (record { at = n; env = q.env; callers = q.callers })) (sym one)
      (subst (λ (e : Held Value). Turns a p (record { at = at; env = e; callers = q.callers })) (sym two)
      (subst (λ (cs : List (Caller Value)). Turns a p (record { at = at; env = env; callers = cs })) (sym three) turns))

  good : (p : Place) → (stands : Stands a p) → IsGood (running_of a) stands.0 p.at (mapped_held meant p.env)
  good p stands = good_here (running_of a) a.main stands.0 p.at (mapped_held meant p.env) (meant_callers p.callers) stands.1

  -- a return

  pub return_can_take : (p : Place) (args : List ℕ) → Stands a p → slice_get a.program.statements p.at ≡ Some (Return args) → (vs : List Value) × (rest : Held Value) × (take_all args p.env ≡ Ok (vs, rest))
  return_can_take p args stands here =
      let taken = return_taken a ready.accepted stands.0 p.at (mapped_held meant p.env) args (good p stands) here in
      let back = take_all_back meant args p.env taken.0 [] taken.1 in
      (back.payloads, back.rest, back.takes)

  return_acts : (p : Place) (args : List ℕ) (vs : List Value) (rest : Held Value) → Stands a p → slice_get a.program.statements p.at ≡ Some (Return args) → take_all args p.env ≡ Ok (vs, rest)
      → Acts mapped a p.at (mapped_held meant p.env) (returns (map meant vs))
  return_acts p args vs rest stands here takes_them =
      let taken = return_taken a ready.accepted stands.0 p.at (mapped_held meant p.env) args (good p stands) here in
      let seen = take_all_mapped meant args p.env vs rest takes_them in
      let same = ok_same (map meant vs, mapped_held meant rest) (taken.0, []) (sym seen ∙ taken.1) in
      let none : mapped_held meant rest ≡ [] = ap (λ (r : List Plain × Held Plain). r.1) same in
      (Return args, here, seen ∙ ap (λ left. Ok (map meant vs, left)) none)

  -- main ends
  pub return_ends : (p : Place) (args : List ℕ) (vs : List Value) (rest : Held Value) → Stands a p → slice_get a.program.statements p.at ≡ Some (Return args) → take_all args p.env ≡ Ok (vs, rest) → p.callers ≡ []
      → Ends a p (map meant vs)
  return_ends p args vs rest stands here takes_them none =
      let acts = return_acts p args vs rest stands here takes_them in
      subst (λ (cs : List (Caller Value)). After (running_of a) p.at (mapped_held meant p.env) (meant_callers cs) (map meant vs)) (sym none)
      (after_end (running_of a) p.at (mapped_held meant p.env) (map meant vs) acts)

  -- the caller that waits goes on with the results
  pub record Resumes (p : Place) (vs : List Value) (c : Caller Value) (callers : List (Caller Value)) : Type 0 where
    pub more : Held Value
    pub adds : add_all (zip c.names vs) c.rest ≡ Ok more
    pub turns : Turns a p (record { at = c.next; env = more; callers = callers })

  pub resumes : (p : Place) (args : List ℕ) (vs : List Value) (rest : Held Value) (c : Caller Value) (callers : List (Caller Value)) → Stands a p → slice_get a.program.statements p.at ≡ Some (Return args)
      → take_all args p.env ≡ Ok (vs, rest) → p.callers ≡ callers ++ c ∷ [] → Resumes p vs c callers
  resumes p args vs rest c callers stands here takes_them last =
      let acts = return_acts p args vs rest stands here takes_them in
      let waiting : meant_callers p.callers ≡ meant_caller c ∷ meant_callers callers = ap meant_callers last ∙ one_more callers c in
      let stacked = subst (λ cs. IsStacked (running_of a) a.main stands.0 p.at (mapped_held meant p.env) cs) waiting stands.1 in
      let back = turn_return (running_of a) (facts a ready.accepted ready.pays (all_weigh a.types ready.accepted.types.kept)) a.main stands.0 p.at (mapped_held meant p.env) (map meant vs) (meant_caller c) (meant_callers callers) stacked acts in
      let found = add_all_back meant c.names vs c.rest back.more back.added in
      let seen : back.more ≡ mapped_held meant found.more = sym found.alike in
      record {
        more = found.more;
        adds = found.adds;
        turns = record {
          stands = (back.f, subst (λ env. IsStacked (running_of a) a.main back.f c.next env (meant_callers callers)) seen back.stacked);
          turn =
              subst (λ cs. IsTurn (running_of a) p.at (mapped_held meant p.env) cs c.next (mapped_held meant found.more) (meant_callers callers)) (sym waiting)
              (subst (λ env. IsTurn (running_of a) p.at (mapped_held meant p.env) (meant_caller c ∷ meant_callers callers) c.next env (meant_callers callers)) seen back.turn);
        };
      }

  -- a libfunc

  pub asked_of : (p : Place) (id args : List ℕ) (branches : List Branch) (stands : Stands a p) → slice_get a.program.statements p.at ≡ Some (Invoke id args branches) → Asks a ready.accepted stands.0 p.at id args branches (mapped_held meant p.env)
  asked_of p id args branches stands here = asks a ready.accepted stands.0 p.at id args branches (mapped_held meant p.env) (good p stands) here

  pub invoke_can_take : (p : Place) (id args : List ℕ) (branches : List Branch) → Stands a p → slice_get a.program.statements p.at ≡ Some (Invoke id args branches) → (vs : List Value) × (rest : Held Value) × (take_all args p.env ≡ Ok (vs, rest))
  invoke_can_take p id args branches stands here =
      let is = asked_of p id args branches stands here in
      let back = take_all_back meant args p.env is.known.taken.vs is.known.taken.left is.known.taken.takes in
      (back.payloads, back.rest, back.takes)

  -- where its signature is
  pub position : (p : Place) (id args : List ℕ) (branches : List Branch) (stands : Stands a p) (here : slice_get a.program.statements p.at ≡ Some (Invoke id args branches))
      → (at : ℕ) × (slice_get positions p.at ≡ Some at) × (slice_get a.sigs at ≡ Some (asked_of p id args branches stands here).sig)
  position p id args branches stands here =
      let is = asked_of p id args branches stands here in
      ready.resolved p.at id args branches is.sig here is.declared_as

  -- what is known of a statement that invokes a libfunc of this signature, once its arguments are taken
  pub record Invokes (p : Place) (args : List ℕ) (branches : List Branch) (sig : Sig) (vs : List Value) (rest : Held Value) : Type 0 where
    pub goes : callee_of sig.libfunc ≡ None → CanGo a p.at sig branches (map meant vs) (mapped_held meant rest)
    pub calls : (g : ℕ) → callee_of sig.libfunc ≡ Some g → (given : Held Plain) × (names : List ℕ) × (next : ℕ) × Calls a g p.at (map meant vs) branches given names next
    pub went : (cost next : ℕ) (more : Held Value) → callee_of sig.libfunc ≡ None → Goes mapped a (fam_of a.types sig.libfunc) p.at (map meant vs) (mapped_held meant rest) branches cost next (mapped_held meant more)
        → Turns a p (record { at = next; env = more; callers = p.callers })
    pub called : (g : ℕ) (given : Held Value) (names : List ℕ) (next : ℕ) → callee_of sig.libfunc ≡ Some g → Calls a g p.at (map meant vs) branches (mapped_held meant given) names next
        → Turns a p (record { at = begins_at a g; env = given; callers = p.callers ++ record { rest = rest; names = names; next = next } ∷ [] })

  pub invokes : (p : Place) (id args : List ℕ) (branches : List Branch) (stands : Stands a p) (here : slice_get a.program.statements p.at ≡ Some (Invoke id args branches)) (vs : List Value) (rest : Held Value)
      → take_all args p.env ≡ Ok (vs, rest) → Invokes p args branches (asked_of p id args branches stands here).sig vs rest
  invokes p id args branches stands here vs rest takes_them =
      let is = asked_of p id args branches stands here in
      let f = stands.0 in
      let env = mapped_held meant p.env in
      let waiting = meant_callers p.callers in
      let seen = take_all_mapped meant args p.env vs rest takes_them in
      record {
        goes = λ none. can_go a ready.accepted f p.at id args branches env (map meant vs) (mapped_held meant rest) (good p stands) is seen none;
        calls = λ g callee. can_call a ready.accepted f p.at id args branches env (map meant vs) (mapped_held meant rest) g is seen callee;
        went = λ cost next more none does.
            (let turn = goes_turn a ready.accepted ready.pays f p.at id args branches env waiting is.sig (map meant vs) (mapped_held meant rest) cost next (mapped_held meant more) stands.1 here is.declared_as seen none does in
            record { stands = (f, turn.0); turn = turn.1 });
        called = λ g given names next callee call.
            (let caller : Caller Value = record { rest = rest; names = names; next = next } in
            let turn = calls_turn a ready.accepted ready.pays f p.at id args branches env waiting is.sig (map meant vs) (mapped_held meant rest) g (mapped_held meant given) names next stands.1 here is.declared_as seen callee call in
            let more : meant_caller caller ∷ waiting ≡ meant_callers (p.callers ++ caller ∷ []) = sym (one_more p.callers caller) in
            record {
              stands = (g, subst (λ cs. IsStacked (running_of a) a.main g (begins_at a g) (mapped_held meant given) cs) more turn.0);
              turn = subst (λ cs. IsTurn (running_of a) p.at env waiting (begins_at a g) (mapped_held meant given) cs) more turn.1;
            });
      }

  -- the signature that is read at its position is the statement's
  pub position_below : (p : Place) (id args : List ℕ) (branches : List Branch) (stands : Stands a p) (here : slice_get a.program.statements p.at ≡ Some (Invoke id args branches)) → p.at < length positions
  position_below p id args branches stands here = let at = position p id args branches stands here in slice_get_within positions p.at at.0 at.1

  pub sig_below : (p : Place) (id args : List ℕ) (branches : List Branch) (stands : Stands a p) (here : slice_get a.program.statements p.at ≡ Some (Invoke id args branches)) (sigs : List Sig) (at : ℕ) → sigs ≡ a.sigs → at ≡ get_or positions p.at at → at < length sigs
  sig_below p id args branches stands here sigs at same is =
      let found = position p id args branches stands here in
      let same_at : at ≡ found.0 = is ∙ get_or_from_slice_get positions p.at found.0 at found.1 in
      let below = slice_get_within a.sigs found.0 (asked_of p id args branches stands here).sig found.2 in
      let many : length sigs ≡ length a.sigs = ap length same in
      omega arith

  pub sig_is : (p : Place) (id args : List ℕ) (branches : List Branch) (stands : Stands a p) (here : slice_get a.program.statements p.at ≡ Some (Invoke id args branches)) (sigs : List Sig) (at : ℕ) (sig : Sig) → sigs ≡ a.sigs → at ≡ get_or positions p.at at
      → sig ≡ get_or sigs at sig → sig ≡ (asked_of p id args branches stands here).sig
  sig_is p id args branches stands here sigs at sig same is read =
      let found = position p id args branches stands here in
      let same_at : at ≡ found.0 = is ∙ get_or_from_slice_get positions p.at found.0 at found.1 in
      read ∙ ap (λ n. get_or sigs n sig) same_at ∙ ap (λ (ss : List Sig). get_or ss found.0 sig) same ∙ get_or_from_slice_get a.sigs found.0 (asked_of p id args branches stands here).sig sig found.2

  -- there is a need for each statement
  pub need_below : (p : Place) → Stands a p → p.at < length a.plan.need
  need_below p stands =
      let each = ready.accepted.plan.needs.for_each in
      let all = terms_long a.program a.types a.sigs 0 a.program.statements in
      let inside = stands.1.inside in
      omega arith

  -- what is known of it by the signature that was read
  pub invokes_by : (p : Place) (id args : List ℕ) (branches : List Branch) (stands : Stands a p) (here : slice_get a.program.statements p.at ≡ Some (Invoke id args branches)) (vs : List Value) (rest : Held Value) (sig : Sig)
      → take_all args p.env ≡ Ok (vs, rest) → sig ≡ (asked_of p id args branches stands here).sig → Invokes p args branches sig vs rest
  invokes_by p id args branches stands here vs rest sig takes_them same = subst (λ (s : Sig). Invokes p args branches s vs rest) (sym same) (invokes p id args branches stands here vs rest takes_them)

-- what a caller of the code is added to
pub more_callers : (old new : List code.Caller) (c : code.Caller) → old ≡ new ++ c ∷ [] → map caller_of old ≡ map caller_of new ++ caller_of c ∷ []
more_callers old new c is = ap (map caller_of) is ∙ map-append caller_of new (c ∷ [])

pub no_callers : (old : List code.Caller) → length old ≡ 0 → map caller_of old ≡ []
no_callers [] none = refl
no_callers (c ∷ old) none = absurd (omega arith)

pub both_ok : {T E P Q R : Type 0} (r : Result T E) → (P → Q → R) → OnOk r P → OnOk r Q → OnOk r R
both_ok (Ok x) f p q = f p q
both_ok (Err e) f p q = tt
