-- What is known of inputs and of meanings: laws that the crates below keep.
use Rattle.std.specs.Prelude.{ℕ, ◌≡◌, ◌≤◌, ◌↔◌, List, Ok, Err}
use Rattle.gas_solver.specs.Accepting.{AcceptedView, IsAccepted}
use Rattle.type_trees.specs.Ty.{Ty}
use Rattle.typed_values.specs.Faults.{IsInputFault}
use Rattle.typed_values.specs.Inputs.{InputView, FitsMain, input_text}
use Rattle.typed_values.specs.Outcome.{OutcomeView}
use Rattle.typed_values.specs.Reading.{input_at}
use Rattle.typed_values.specs.declared.fault.InputFault.{InputFault}
use Rattle.sierra_meaning.specs.Main.{statement_bound}
use Rattle.sierra_meaning.specs.Outcome.{Fits, Means, MeansWithin}
use Rattle.sierra_tool.specs.Causes.{argument_types, IsNoInputOf}

pub record Known : Type 0 where
  pub texts : (tys : List Ty) (text : List ℕ) (i : InputView) → (input_at tys text ≡ Ok i) ↔ (FitsMain tys i × (text ≡ input_text i))
  pub faults : (a : AcceptedView) → IsAccepted a → (text : List ℕ) (fault : InputFault) → (input_at (argument_types a) text ≡ Err fault) ↔ IsNoInputOf a text fault
  pub one_fault : (tys : List Ty) (text : List ℕ) (one other : InputFault) → IsInputFault tys text one → IsInputFault tys text other → one ≡ other
  pub no_input : (tys : List Ty) (text : List ℕ) (fault : InputFault) (i : InputView) → IsInputFault tys text fault → FitsMain tys i → text ≡ input_text i → ⊥
  pub one_meaning : (a : AcceptedView) (i : InputView) (n m : ℕ) (one other : OutcomeView) → Means a i n one → Means a i m other → (n ≡ m) × (one ≡ other)
  pub every_meaning_ends : (a : AcceptedView) → IsAccepted a → (i : InputView) → Fits a i → a.plan.entry ≤ i.gas
      → (outcome : OutcomeView) × MeansWithin a i (statement_bound a i.gas) outcome
