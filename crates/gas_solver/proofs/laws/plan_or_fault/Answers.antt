use Rattle.gas_solver.proofs.Deciding.{plan_or_fault}
use Rattle.gas_solver.proofs.laws.plan_or_fault.Goals as goal

pub returns : goal.returns
returns c = λ p t sigs a main has signatures typed inside no_plan no_fault. plan_or_fault p t sigs a main has signatures typed inside no_plan (λ fault not is. no_fault fault is)
