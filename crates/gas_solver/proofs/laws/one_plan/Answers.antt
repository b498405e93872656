use Rattle.gas_solver.proofs.OneAnswer.{one_plan}
use Rattle.gas_solver.proofs.laws.one_plan.Goals as goal

pub returns : goal.returns
returns c = one_plan
