-- What a libfunc's statement and the end of a function give, once their faults are known.
use Rattle.std.proofs.Common.{◌≡◌, ℕ, List, [], ◌∷◌, Bool, true, false, is_some, Option, Some, None, Result, Ok, Err, refl, sym, ap, subst, ◌∙◌}
use Rattle.sierra_types.specs.declared.program.Branch.{Branch}
use Rattle.type_table.specs.View.{TypesView}
use Rattle.libfunc_registry.specs.declared.sig.Sig.{Sig}
use Rattle.held_list.specs.Held.{Held}
use Rattle.statement_walk.specs.Branches.{AreFirst}
use Rattle.ap_refs.specs.declared.fault.RefFault.{RefFault}
use Rattle.ap_refs.specs.declared.place.Locals.{Locals}
use Rattle.ap_refs.specs.declared.place.Place.{Place}
use Rattle.ap_refs.specs.Arguments.{Cells, Argument, joined}
use Rattle.ap_refs.specs.Locals.{local_step}
use Rattle.std.proofs.lemmas.Bool.{false≢true}
use Rattle.ap_refs.specs.Flow.{branch_parts, all_pass, parts_unless, invoke_fault, stepped_parts, step_parts, taken_parts}

pub first_all : (given : List (ℕ × Place)) → AreFirst given None (all_pass given)
first_all [] = tt
first_all (x ∷ xs) = (refl, first_all xs)

-- no branch is given anything, and the fault is what was found
pub stopped : (given : List (ℕ × Place)) (f fault : Option RefFault) (parts : List (Result (ℕ × Place) RefFault)) → given ≡ [] → f ≡ fault → (fault ≡ None → parts ≡ []) → AreFirst given f (parts_unless fault parts)
stopped given f None parts none same empty =
    subst (λ g. AreFirst {E = Place} {F = RefFault} g f parts) (sym none) (subst (λ o. AreFirst {E = Place} {F = RefFault} [] o parts) (sym same) (subst (AreFirst {E = Place} {F = RefFault} [] None) (sym (empty refl)) tt))
stopped given f (Some x) parts none same empty =
    subst (λ g. AreFirst {E = Place} {F = RefFault} g f (Err x ∷ [])) (sym none) (subst (λ o. AreFirst {E = Place} {F = RefFault} [] o (Err x ∷ [])) (sym same) refl)

module _ (t : TypesView) (s : ℕ) (sig : Sig) (place : Place) (bs : List Branch) (args : List Argument) (rest : Held Cells) where
  pub pass_stops : (step : Option (Locals × ℕ)) (fault f : Option RefFault) (given : List (ℕ × Place)) → step ≡ local_step t sig.libfunc place.ap place.locals → fault ≡ invoke_fault s t sig.libfunc args rest step
      → given ≡ [] → f ≡ fault → (fault ≡ None → stepped_parts t s sig place args rest bs step ≡ []) → AreFirst given f (taken_parts t s sig place bs (args, rest))
  pass_stops step fault f given is found none same empty =
      subst (λ o. AreFirst given f (step_parts t s sig place bs (args, rest) o)) is
      (subst (λ x. AreFirst given f (parts_unless x (stepped_parts t s sig place args rest bs step))) found (stopped given f fault (stepped_parts t s sig place args rest bs step) none same empty))

  pub pass_gives : (step : Option (Locals × ℕ)) (fault : Option RefFault) (given : List (ℕ × Place)) → step ≡ local_step t sig.libfunc place.ap place.locals → fault ≡ invoke_fault s t sig.libfunc args rest step
      → fault ≡ None → stepped_parts t s sig place args rest bs step ≡ all_pass given → AreFirst given None (taken_parts t s sig place bs (args, rest))
  pass_gives step fault given is found none gives =
      subst (λ o. AreFirst given None (step_parts t s sig place bs (args, rest) o)) is
      (subst (λ x. AreFirst given None (parts_unless x (stepped_parts t s sig place args rest bs step))) (sym none ∙ found) (subst (AreFirst given None) (sym gives) (first_all given)))

  -- a statement that passes gives its branches what its step says
  pub pass_done : (cells : Cells) (locals : Locals) (amount : ℕ) (step : Option (Locals × ℕ)) (fault : Option RefFault) (given : List (ℕ × Place)) → cells ≡ joined args → step ≡ Some (locals, amount)
      → step ≡ local_step t sig.libfunc place.ap place.locals → fault ≡ invoke_fault s t sig.libfunc args rest step → fault ≡ None
      → branch_parts t s sig.libfunc place cells rest locals amount 0 bs sig.branches ≡ all_pass given → AreFirst given None (taken_parts t s sig place bs (args, rest))
  pass_done cells locals amount step fault given are some is found none gives =
      let here : stepped_parts t s sig place args rest bs step ≡ branch_parts t s sig.libfunc place cells rest locals amount 0 bs sig.branches =
      ap (stepped_parts t s sig place args rest bs) some ∙ ap (λ cs. branch_parts t s sig.libfunc place cs rest locals amount 0 bs sig.branches) (sym are) in
      pass_gives step fault given is found none (here ∙ gives)

pub not_some : {A : Type 0} (o : Option A) → false ≡ is_some o → o ≡ None
not_some None is = refl
not_some (Some x) is = absurd (false≢true is)
