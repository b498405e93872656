-- Each statement of an accepted program acts as is asked, is never stuck, and has one action.
use Rattle.std.proofs.Common.{◌≡◌, ℕ, List, [], Option, Some, None, Ok, refl, sym, ap, subst, ◌∙◌, arith}
use Rattle.std.specs.List.{slice_get}
use Rattle.sierra_types.specs.declared.program.Statement.TheVariants.{Invoke, Return}
use Rattle.sierra_types.specs.declared.program.Branch.{Branch}
use Rattle.libfunc_registry.specs.Fam.{Fam, fam_of}
use Rattle.held_list.specs.Held.{Held}
use Rattle.held_list.specs.Editing.{take_all}
use Rattle.linear_check.specs.Statements.{result_types}
use Rattle.gas_solver.specs.Accepting.{AcceptedView, IsAccepted}
use Rattle.value_trees.specs.Val.{Plain}
use Rattle.libfunc_meaning.specs.Dictionaries.{mapped}
use Rattle.libfunc_meaning.specs.Placed.{ArePlain}
use Rattle.sierra_meaning.specs.Acts.{Acts, InvokeActs, Goes, Calls, callee_of}
use Rattle.sierra_meaning.specs.Mean.{returns, goes, calls}
use Rattle.sierra_meaning.specs.Facts.{IsGood, ReturnsWell, GoesWell, CallsWell, Facts}
use Rattle.sierra_meaning.specs.Measured.{gas_inside, length_of, running_of}
use Rattle.sierra_meaning.specs.Weighing.{PlanPays, AllWeigh}
use Rattle.sierra_meaning.proofs.HeldValues.{ok_same, take_all_total, take_all_greatest}
use Rattle.sierra_meaning.proofs.Typing.{taken_values, results_trees}
use Rattle.sierra_meaning.proofs.Going.{goes_well}
use Rattle.sierra_meaning.proofs.Calling.{calls_well}

module _ (a : AcceptedView) where
  -- what an action says of the libfunc

  returns_not : (o : Option ℕ) (fam : Fam) (s : ℕ) (vs : List Plain) (rest : Held Plain) (branches : List Branch) (results : List Plain) → InvokeActs mapped a o fam s vs rest branches (returns results) → ⊥
  returns_not None fam s vs rest branches results acts = acts
  returns_not (Some f) fam s vs rest branches results acts = acts

  goes_by : (o : Option ℕ) (fam : Fam) (s : ℕ) (vs : List Plain) (rest : Held Plain) (branches : List Branch) (cost next : ℕ) (more : Held Plain) → InvokeActs mapped a o fam s vs rest branches (goes cost next more)
      → (o ≡ None) × Goes mapped a fam s vs rest branches cost next more
  goes_by None fam s vs rest branches cost next more acts = (refl, acts)
  goes_by (Some f) fam s vs rest branches cost next more acts = absurd acts

  calls_by : (o : Option ℕ) (fam : Fam) (s : ℕ) (vs : List Plain) (rest : Held Plain) (branches : List Branch) (g : ℕ) (args held : Held Plain) (names : List ℕ) (next : ℕ) → InvokeActs mapped a o fam s vs rest branches (calls g args held names next)
      → (o ≡ Some g) × (held ≡ rest) × Calls a g s vs branches args names next
  calls_by None fam s vs rest branches g args held names next acts = absurd acts
  calls_by (Some f) fam s vs rest branches g args held names next (same, left, call) = (ap (λ n. Some n) (sym same), left, subst (λ n. Calls a n s vs branches args names next) (sym same) call)

  -- the facts

  module _ (ok : IsAccepted a) (pays : PlanPays a) (weigh : AllWeigh a.types) where
    returns_well : (f s : ℕ) (env : Held Plain) (args : List ℕ) (results : List Plain) → IsGood (running_of a) f s env → slice_get a.program.statements s ≡ Some (Return args) → take_all args env ≡ Ok (results, [])
        → ReturnsWell (running_of a) f s env results
    returns_well f s env args results good here takes_them =
        let held = good.typed in
        let taken = taken_values a.types args (result_types a.types f) held.0 [] env (ok.typed.statements s f held.0 (Return args) here held.1) held.2 in
        let same_taken = ok_same (taken.vs, taken.left) (results, []) (sym taken.takes ∙ takes_them) in
        let same : taken.vs ≡ results = ap (λ (p : List Plain × Held Plain). p.0) same_taken in
        let gas = take_all_total gas_inside args env results [] takes_them in
        let long = take_all_greatest length_of args env results [] takes_them in
        record {
          typed = subst (λ tys. ArePlain tys results) (results_trees a.types f) (subst (ArePlain _) same taken.typed);
          paid = pays.returns s args here;
          no_more_gas = omega arith;
          no_longer = omega arith;
        }

    on_return : (f s : ℕ) (env : Held Plain) (results : List Plain) → IsGood (running_of a) f s env → Acts mapped a s env (returns results) → ReturnsWell (running_of a) f s env results
    on_return f s env results good (Return args, here, takes_them) = returns_well f s env args results good here takes_them
    on_return f s env results good (Invoke id args branches, here, does) = absurd (returns_not (callee_of does.sig.libfunc) (fam_of a.types does.sig.libfunc) s does.vs does.rest branches results does.acts)

    on_goes : (f s : ℕ) (env : Held Plain) (cost next : ℕ) (more : Held Plain) → IsGood (running_of a) f s env → Acts mapped a s env (goes cost next more) → GoesWell (running_of a) f s env cost next more
    on_goes f s env cost next more good (Return args, here, none) = absurd none
    on_goes f s env cost next more good (Invoke id args branches, here, does) =
        let by = goes_by (callee_of does.sig.libfunc) (fam_of a.types does.sig.libfunc) s does.vs does.rest branches cost next more does.acts in
        goes_well a ok pays weigh f s env id args branches does.sig does.vs does.rest cost next more good here does.declared_as does.takes by.0 by.1

    on_call : (f s : ℕ) (env : Held Plain) (g : ℕ) (args rest : Held Plain) (names : List ℕ) (next : ℕ) → IsGood (running_of a) f s env → Acts mapped a s env (calls g args rest names next)
        → CallsWell (running_of a) f s env g args rest names next
    on_call f s env g args rest names next good (Return names', here, none) = absurd none
    on_call f s env g args rest names next good (Invoke id names' branches, here, does) =
        let by = calls_by (callee_of does.sig.libfunc) (fam_of a.types does.sig.libfunc) s does.vs does.rest branches g args rest names next does.acts in
        subst (λ held. CallsWell (running_of a) f s env g args held names next) (sym by.1)
        (calls_well a ok pays f s env id names' branches does.sig does.vs does.rest g args names next good here does.declared_as does.takes by.0 by.2)

    pub facts : Facts (running_of a)
    facts = record { on_return = on_return; on_goes = on_goes; on_call = on_call }
