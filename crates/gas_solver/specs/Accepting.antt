-- A program that passes all that is asked up to its gas plan.
use Rattle.std.specs.Prelude.{◌≡◌, ℕ, List, Ok}
use Rattle.sierra_types.specs.declared.program.Program.{Program}
use Rattle.type_table.specs.View.{TypesView}
use Rattle.type_table.specs.Table.{HasTypes}
use Rattle.libfunc_registry.specs.declared.sig.Sig.{Sig}
use Rattle.libfunc_registry.specs.Signature.{HasSignatures}
use Rattle.linear_check.specs.Typed.{Typed, TypedList}
use Rattle.entry_check.specs.Entry.{entry_of}
use Rattle.gas_solver.specs.Plans.{PlanView, IsPlan}

pub record AcceptedView : Type 0 where
  pub program : Program
  pub types : TypesView
  pub sigs : List Sig
  pub envs : TypedList
  pub plan : PlanView
  pub main : ℕ

-- each part is that of the program
pub record IsAccepted (a : AcceptedView) : Type 0 where
  pub types : HasTypes a.program a.types
  pub signatures : HasSignatures a.types a.program.libfuncs a.sigs
  pub typed : Typed a.program a.types a.sigs a.envs
  pub main : entry_of a.program a.types ≡ Ok a.main
  pub plan : IsPlan a.program a.types a.sigs a.main a.plan
