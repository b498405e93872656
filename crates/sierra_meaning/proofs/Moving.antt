-- In an accepted program no statement is stuck.
use Rattle.std.proofs.Common.{◌≡◌, ℕ, List, [], ◌∷◌, Option, Some, None, Ok, refl, sym, ap, subst, ◌∙◌}
use Rattle.std.specs.List.{slice_get, zip, AllZip}
use Rattle.sierra_types.specs.declared.program.Statement.{Statement}
use Rattle.sierra_types.specs.declared.program.Statement.TheVariants.{Invoke, Return}
use Rattle.sierra_types.specs.declared.program.Branch.{Branch}
use Rattle.libfunc_registry.specs.declared.sig.Sig.{Sig}
use Rattle.libfunc_registry.specs.declared.libfunc.Libfunc.{Libfunc}
use Rattle.libfunc_registry.specs.declared.libfunc.Libfunc.TheVariants as libfuncs
use Rattle.libfunc_registry.specs.Fam.{Fam, fam_of, takes, gives, params_of, results_of}
use Rattle.libfunc_registry.specs.Signature.{AreTrees}
use Rattle.cost_table.specs.Costs.{charge}
use Rattle.held_list.specs.Held.{Held}
use Rattle.held_list.specs.Editing.{add_all}
use Rattle.statement_walk.proofs.Arrivals.{inside}
use Rattle.linear_check.specs.Statements.{declared, target_of, result_types}
use Rattle.linear_check.specs.Typed.{Gives}
use Rattle.linear_check.specs.Typed as linear
use Rattle.gas_solver.specs.Accepting.{AcceptedView, IsAccepted}
use Rattle.value_trees.specs.Val.{Plain}
use Rattle.libfunc_meaning.specs.Dictionaries.{mapped}
use Rattle.libfunc_meaning.specs.Do.{Do}
use Rattle.libfunc_meaning.specs.Placed.{ArePlain}
use Rattle.libfunc_meaning.proofs.Answering.{types_are_kept, never_stuck}
use Rattle.sierra_meaning.specs.Acts.{Acts, InvokeActs, Goes, callee_of, amount_at}
use Rattle.sierra_meaning.specs.Mean.{Action, returns, goes, calls}
use Rattle.sierra_meaning.specs.Facts.{IsGood, Moves}
use Rattle.sierra_meaning.specs.Measured.{IsPlainAt, running_of}
use Rattle.sierra_meaning.proofs.Known.{callee_below}
use Rattle.sierra_meaning.proofs.Typing.{taken_values, none_left}
use Rattle.sierra_meaning.proofs.Invoking.{invoked, leads, branch_there}
use Rattle.sierra_meaning.proofs.Callees.{is_call}
use Rattle.sierra_meaning.proofs.Going.{taken_short, asked}
use Rattle.sierra_meaning.proofs.Calling.{begins}

pub one_beside : {A B C : Type 0} (Q : A → B → Type 0) (R : B → C → Type 0) (xs : List A) (ys : List B) (z : C) → AllZip Q xs ys → AllZip R ys (z ∷ []) → (x : A) × (xs ≡ x ∷ [])
one_beside Q R xs [] z all more = absurd more
one_beside Q R [] (y ∷ ys) z all more = absurd all
one_beside Q R (x ∷ []) (y ∷ []) z all more = (x, refl)
one_beside Q R (x ∷ w ∷ xs) (y ∷ []) z all more = absurd all.1
one_beside Q R (x ∷ xs) (y ∷ u ∷ ys) z all more = absurd more.1

module _ (a : AcceptedView) (ok : IsAccepted a) where
  abbrev Moved : ℕ → Held Plain → Type 0
  Moved s env = (action : Action Plain) × Acts mapped a s env action

  goes_so : (fam : Fam) (s : ℕ) (vs : List Plain) (rest : Held Plain) (branches : List Branch) (k : ℕ) (results : List Plain) (branch : Branch) (more : Held Plain) → Do mapped fam vs (amount_at a s) k results
      → slice_get branches k ≡ Some branch → add_all (zip branch.results results) rest ≡ Ok more → Goes mapped a fam s vs rest branches (charge fam k) (target_of s branch.target) more
  goes_so fam s vs rest branches k results branch more does taken added =
      record { k = k; results = results; does = does; branch = branch; taken = taken; added = added; charged = refl; goes_to = refl }

  -- by a libfunc that is no call
  goes_on : (f s : ℕ) (env : Held Plain) (id args : List ℕ) (branches : List Branch) (sig : Sig) → IsGood (running_of a) f s env → slice_get a.program.statements s ≡ Some (Invoke id args branches) → declared a.program a.sigs id ≡ Some sig
      → callee_of sig.libfunc ≡ None → Moved s env
  goes_on f s env id args branches sig good here named none =
      let state = invoked a ok f s id args branches sig env here named good.typed in
      let fam = fam_of a.types sig.libfunc in
      let asks = asked a sig state.taken.vs state.signature none (taken_short a f s env args state.taken.vs state.taken.left good state.taken.takes) in
      let answer = never_stuck fam state.taken.vs (amount_at a s) asks.proper asks.no_call state.typed in
      let kept = types_are_kept fam state.taken.vs (amount_at a s) answer.0 answer.1 asks state.typed answer.2 in
      let branch = branch_there a ok f s args branches sig env state answer.0 kept.0 kept.1 in
      let after = leads a ok f s args branches sig env state answer.0 branch.0 kept.0 answer.1 branch.1 kept.1 kept.2 in
      let action : Action Plain = goes (charge fam answer.0) (target_of s branch.0.target) after.more in
      let acts : InvokeActs mapped a None fam s state.taken.vs state.taken.left branches action =
      goes_so fam s state.taken.vs state.taken.left branches answer.0 answer.1 branch.0 after.more answer.2 branch.1 after.adds in (
        action,
        (
          Invoke id args branches,
          here,
          record {
            sig = sig;
            declared_as = named;
            vs = state.taken.vs;
            rest = state.taken.left;
            takes = state.taken.takes;
            acts = subst (λ o. InvokeActs mapped a o fam s state.taken.vs state.taken.left branches action) (sym none) acts;
          },
        ),
      )

  -- by a call
  calls_it : (f s : ℕ) (env : Held Plain) (id args : List ℕ) (branches : List Branch) (sig : Sig) (g : ℕ) → IsGood (running_of a) f s env → slice_get a.program.statements s ≡ Some (Invoke id args branches)
      → declared a.program a.sigs id ≡ Some sig → callee_of sig.libfunc ≡ Some g → Moved s env
  calls_it f s env id args branches sig g good here named callee =
      let state = invoked a ok f s id args branches sig env here named good.typed in
      let fam = fam_of a.types sig.libfunc in
      let is : sig.libfunc ≡ libfuncs.FunctionCall g = is_call sig.libfunc g callee in
      let taken : takes fam ≡ params_of a.types g = ap (λ (l : Libfunc). takes (fam_of a.types l)) is in
      let gave : gives fam ≡ results_of a.types g ∷ [] = ap (λ (l : Libfunc). gives (fam_of a.types l)) is in
      let function = inside a.program.functions g (callee_below a.program a.types sig g ok.types state.signature is) in
      let begun = begins a ok g function.0 state.taken.vs function.1 (subst (λ tys. ArePlain tys state.taken.vs) taken state.typed) in
      let one = one_beside (Gives a.envs f s state.rest) (AreTrees a.types) branches sig.branches (results_of a.types g) state.gives (subst (λ tyss. AllZip (AreTrees a.types) sig.branches tyss) gave state.signature.1.branches) in
      let action : Action Plain = calls g begun.args state.taken.left one.0.results (target_of s one.0.target) in
      let acts : InvokeActs mapped a (Some g) fam s state.taken.vs state.taken.left branches action =
      (refl, refl, record { callee = function.0; called = function.1; given = begun.given; branch = one.0; one = one.1; named = refl; goes_to = refl }) in (
        action,
        (
          Invoke id args branches,
          here,
          record {
            sig = sig;
            declared_as = named;
            vs = state.taken.vs;
            rest = state.taken.left;
            takes = state.taken.takes;
            acts = subst (λ o. InvokeActs mapped a o fam s state.taken.vs state.taken.left branches action) (sym callee) acts;
          },
        ),
      )

  returned : (f s : ℕ) (env : Held Plain) (args : List ℕ) → IsGood (running_of a) f s env → slice_get a.program.statements s ≡ Some (Return args) → Moved s env
  returned f s env args good here =
      let held = good.typed in
      let taken = taken_values a.types args (result_types a.types f) held.0 [] env (ok.typed.statements s f held.0 (Return args) here held.1) held.2 in
      let none = none_left (IsPlainAt a.types) taken.left taken.alike in
      (returns taken.vs, (Return args, here, taken.takes ∙ ap (λ left. Ok (taken.vs, left)) none))

  by_callee : (f s : ℕ) (env : Held Plain) (id args : List ℕ) (branches : List Branch) (sig : Sig) → IsGood (running_of a) f s env → slice_get a.program.statements s ≡ Some (Invoke id args branches) → declared a.program a.sigs id ≡ Some sig
      → (o : Option ℕ) → callee_of sig.libfunc ≡ o → Moved s env
  by_callee f s env id args branches sig good here named None is = goes_on f s env id args branches sig good here named is
  by_callee f s env id args branches sig good here named (Some g) is = calls_it f s env id args branches sig g good here named is

  by_statement : (f s : ℕ) (env : Held Plain) (statement : Statement) → IsGood (running_of a) f s env → slice_get a.program.statements s ≡ Some statement → Moved s env
  by_statement f s env (Return args) good here = returned f s env args good here
  by_statement f s env (Invoke id args branches) good here =
      let held = good.typed in
      let is : linear.Invokes a.program a.sigs a.envs f s held.0 id args branches = ok.typed.statements s f held.0 (Invoke id args branches) here held.1 in
      by_callee f s env id args branches is.sig good here is.declared_as (callee_of is.sig.libfunc) refl

  pub moves : Moves (running_of a)
  moves f s env good =
      let statement = inside a.program.statements s good.inside in
      by_statement f s env statement.0 good statement.1
