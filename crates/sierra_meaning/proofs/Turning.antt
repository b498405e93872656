-- What the evaluator may ask of a statement where it stands, and that what it does there is a turn.
use Rattle.std.proofs.Common.{◌≡◌, ℕ, List, [], ◌∷◌, Some, None, Ok, refl, sym, ap, subst, ◌∙◌}
use Rattle.std.specs.List.{slice_get, zip, AllZip}
use Rattle.sierra_types.specs.declared.program.Statement.TheVariants.{Invoke, Return}
use Rattle.sierra_types.specs.declared.program.Branch.{Branch}
use Rattle.libfunc_registry.specs.declared.sig.Sig.{Sig}
use Rattle.libfunc_registry.specs.declared.libfunc.Libfunc.{Libfunc}
use Rattle.libfunc_registry.specs.declared.libfunc.Libfunc.TheVariants as libfuncs
use Rattle.libfunc_registry.specs.Fam.{fam_of, takes, gives, params_of, results_of}
use Rattle.libfunc_registry.specs.Signature.{AreTrees}
use Rattle.held_list.specs.Held.{Held}
use Rattle.held_list.specs.Editing.{take_all, add_all}
use Rattle.statement_walk.proofs.Arrivals.{inside}
use Rattle.linear_check.specs.Statements.{declared, target_of, result_types}
use Rattle.linear_check.specs.Typed.{Gives}
use Rattle.linear_check.specs.Typed as linear
use Rattle.gas_solver.specs.Accepting.{AcceptedView, IsAccepted}
use Rattle.value_trees.specs.Val.{Plain}
use Rattle.libfunc_meaning.specs.Applying.{AreShort}
use Rattle.libfunc_meaning.specs.Dictionaries.{mapped}
use Rattle.libfunc_meaning.specs.Placed.{ArePlain}
use Rattle.libfunc_meaning.proofs.Answering.{types_are_kept}
use Rattle.sierra_meaning.specs.Acts.{Acts, InvokeActs, Goes, Calls, callee_of, amount_at, begins_at}
use Rattle.sierra_meaning.specs.Evaluating.{Caller, IsStacked, IsTurn}
use Rattle.sierra_meaning.specs.Facts.{IsGood}
use Rattle.sierra_meaning.specs.Mean.{Action, goes, calls}
use Rattle.sierra_meaning.specs.Measured.{IsPlainAt, running_of}
use Rattle.sierra_meaning.specs.Turns.{CanGo}
use Rattle.sierra_meaning.specs.Weighing.{PlanPays}
use Rattle.sierra_meaning.proofs.Callees.{is_call}
use Rattle.sierra_meaning.proofs.Calling.{begins}
use Rattle.sierra_meaning.proofs.Evaluated.{turn_goes, turn_call}
use Rattle.sierra_meaning.proofs.Going.{taken_short, asked}
use Rattle.sierra_meaning.proofs.HeldValues.{ok_same}
use Rattle.sierra_meaning.proofs.Invoking.{Invoked, invoked, leads, branch_there}
use Rattle.sierra_meaning.proofs.Known.{callee_below}
use Rattle.sierra_meaning.proofs.Moving.{one_beside}
use Rattle.sierra_meaning.proofs.ProgramFacts.{facts}
use Rattle.sierra_meaning.proofs.Typing.{taken_values, none_left}
use Rattle.sierra_meaning.proofs.Weighed.{all_weigh}

-- a libfunc that isn't `function_call` calls none
pub no_callee : (libfunc : Libfunc) → ((f : ℕ) → libfunc ≡ libfuncs.FunctionCall f → ⊥) → callee_of libfunc ≡ None
no_callee (libfuncs.FunctionCall f) other = absurd (other f refl)
no_callee _ other = refl

module _ (a : AcceptedView) (ok : IsAccepted a) where
  -- the arguments of a return are all that is held
  pub return_taken : (f s : ℕ) (env : Held Plain) (args : List ℕ) → IsGood (running_of a) f s env → slice_get a.program.statements s ≡ Some (Return args) → (vs : List Plain) × (take_all args env ≡ Ok (vs, []))
  return_taken f s env args good here =
      let held = good.typed in
      let taken = taken_values a.types args (result_types a.types f) held.0 [] env (ok.typed.statements s f held.0 (Return args) here held.1) held.2 in
      let none = none_left (IsPlainAt a.types) taken.left taken.alike in
      (taken.vs, taken.takes ∙ ap (λ left. Ok (taken.vs, left)) none)

  -- the signature of a statement that invokes a libfunc, and what is known of it
  pub record Asks (f s : ℕ) (id args : List ℕ) (branches : List Branch) (env : Held Plain) : Type 0 where
    pub sig : Sig
    pub declared_as : declared a.program a.sigs id ≡ Some sig
    pub known : Invoked a ok f s args branches sig env

  pub asks : (f s : ℕ) (id args : List ℕ) (branches : List Branch) (env : Held Plain) → IsGood (running_of a) f s env → slice_get a.program.statements s ≡ Some (Invoke id args branches) → Asks f s id args branches env
  asks f s id args branches env good here =
      let held = good.typed in
      let is : linear.Invokes a.program a.sigs a.envs f s held.0 id args branches = ok.typed.statements s f held.0 (Invoke id args branches) here held.1 in
      record { sig = is.sig; declared_as = is.declared_as; known = invoked a ok f s id args branches is.sig env here is.declared_as good.typed }

  pub can_go : (f s : ℕ) (id args : List ℕ) (branches : List Branch) (env : Held Plain) (vs : List Plain) (rest : Held Plain) → IsGood (running_of a) f s env → (asked_for : Asks f s id args branches env)
      → take_all args env ≡ Ok (vs, rest) → callee_of asked_for.sig.libfunc ≡ None → CanGo a s asked_for.sig branches vs rest
  can_go f s id args branches env vs rest good asked_for takes_them none =
      let known = asked_for.known in
      let sig = asked_for.sig in
      let fam = fam_of a.types sig.libfunc in
      let same_taken = ok_same (known.taken.vs, known.taken.left) (vs, rest) (sym known.taken.takes ∙ takes_them) in
      let same_vs : known.taken.vs ≡ vs = ap (λ (p : List Plain × Held Plain). p.0) same_taken in
      let same_rest : known.taken.left ≡ rest = ap (λ (p : List Plain × Held Plain). p.1) same_taken in
      let typed = subst (ArePlain (takes fam)) same_vs known.typed in
      let short : AreShort vs = taken_short a f s env args vs rest good takes_them in
      let asks_for = asked a sig vs known.signature none short in
      record {
        signature = known.signature;
        no_call = asks_for.no_call;
        typed = typed;
        short = short;
        leads = λ k outs does.
            (let kept = types_are_kept fam vs (amount_at a s) k outs asks_for typed does in
            let branch = branch_there a ok f s args branches sig env known k kept.0 kept.1 in
            let after = leads a ok f s args branches sig env known k branch.0 kept.0 outs branch.1 kept.1 kept.2 in
            (branch.0, branch.1, after.more, ap (add_all (zip branch.0.results outs)) (sym same_rest) ∙ after.adds));
      }

  pub can_call : (f s : ℕ) (id args : List ℕ) (branches : List Branch) (env : Held Plain) (vs : List Plain) (rest : Held Plain) (g : ℕ) → (asked_for : Asks f s id args branches env) → take_all args env ≡ Ok (vs, rest)
      → callee_of asked_for.sig.libfunc ≡ Some g → (given : Held Plain) × (names : List ℕ) × (next : ℕ) × Calls a g s vs branches given names next
  can_call f s id args branches env vs rest g asked_for takes_them callee =
      let known = asked_for.known in
      let sig = asked_for.sig in
      let fam = fam_of a.types sig.libfunc in
      let same_taken = ok_same (known.taken.vs, known.taken.left) (vs, rest) (sym known.taken.takes ∙ takes_them) in
      let same_vs : known.taken.vs ≡ vs = ap (λ (p : List Plain × Held Plain). p.0) same_taken in
      let is : sig.libfunc ≡ libfuncs.FunctionCall g = is_call sig.libfunc g callee in
      let taken : takes fam ≡ params_of a.types g = ap (λ (l : Libfunc). takes (fam_of a.types l)) is in
      let gave : gives fam ≡ results_of a.types g ∷ [] = ap (λ (l : Libfunc). gives (fam_of a.types l)) is in
      let function = inside a.program.functions g (callee_below a.program a.types sig g ok.types known.signature is) in
      let typed : ArePlain (params_of a.types g) vs = subst (λ us. ArePlain (params_of a.types g) us) same_vs (subst (λ tys. ArePlain tys known.taken.vs) taken known.typed) in
      let begun = begins a ok g function.0 vs function.1 typed in
      let one = one_beside (Gives a.envs f s known.rest) (AreTrees a.types) branches sig.branches (results_of a.types g) known.gives (subst (λ tyss. AllZip (AreTrees a.types) sig.branches tyss) gave known.signature.1.branches) in
      let call : Calls a g s vs branches begun.args one.0.results (target_of s one.0.target) =
      record { callee = function.0; called = function.1; given = begun.given; branch = one.0; one = one.1; named = refl; goes_to = refl } in
      (begun.args, one.0.results, target_of s one.0.target, call)

  module _ (pays : PlanPays a) where
    pub goes_turn : (f s : ℕ) (id args : List ℕ) (branches : List Branch) (env : Held Plain) (callers : List (Caller Plain)) (sig : Sig) (vs : List Plain) (rest : Held Plain) (cost next : ℕ) (more : Held Plain)
        → IsStacked (running_of a) a.main f s env callers → slice_get a.program.statements s ≡ Some (Invoke id args branches) → declared a.program a.sigs id ≡ Some sig → take_all args env ≡ Ok (vs, rest)
        → callee_of sig.libfunc ≡ None → Goes mapped a (fam_of a.types sig.libfunc) s vs rest branches cost next more
        → IsStacked (running_of a) a.main f next more callers × IsTurn (running_of a) s env callers next more callers
    goes_turn f s id args branches env callers sig vs rest cost next more stacked here named takes_them none does =
        let action : Action Plain = goes cost next more in
        let by : InvokeActs mapped a (callee_of sig.libfunc) (fam_of a.types sig.libfunc) s vs rest branches action = subst (λ o. InvokeActs mapped a o (fam_of a.types sig.libfunc) s vs rest branches action) (sym none) does in
        let acts : Acts mapped a s env action = (Invoke id args branches, here, record { sig = sig; declared_as = named; vs = vs; rest = rest; takes = takes_them; acts = by }) in
        turn_goes (running_of a) (facts a ok pays (all_weigh a.types ok.types.kept)) a.main f s env callers cost next more stacked acts

    pub calls_turn : (f s : ℕ) (id args : List ℕ) (branches : List Branch) (env : Held Plain) (callers : List (Caller Plain)) (sig : Sig) (vs : List Plain) (rest : Held Plain) (g : ℕ) (given : Held Plain) (names : List ℕ) (next : ℕ)
        → IsStacked (running_of a) a.main f s env callers → slice_get a.program.statements s ≡ Some (Invoke id args branches) → declared a.program a.sigs id ≡ Some sig → take_all args env ≡ Ok (vs, rest)
        → callee_of sig.libfunc ≡ Some g → Calls a g s vs branches given names next
        → IsStacked (running_of a) a.main g (begins_at a g) given (record { rest = rest; names = names; next = next } ∷ callers)
        × IsTurn (running_of a) s env callers (begins_at a g) given (record { rest = rest; names = names; next = next } ∷ callers)
    calls_turn f s id args branches env callers sig vs rest g given names next stacked here named takes_them callee call =
        let action : Action Plain = calls g given rest names next in
        let fam = fam_of a.types sig.libfunc in
        let does : InvokeActs mapped a (Some g) fam s vs rest branches action = (refl, refl, call) in
        let by : InvokeActs mapped a (callee_of sig.libfunc) fam s vs rest branches action = subst (λ o. InvokeActs mapped a o fam s vs rest branches action) (sym callee) does in
        let acts : Acts mapped a s env action = (Invoke id args branches, here, record { sig = sig; declared_as = named; vs = vs; rest = rest; takes = takes_them; acts = by }) in
        turn_call (running_of a) (facts a ok pays (all_weigh a.types ok.types.kept)) a.main f s env callers g given rest names next stacked acts
