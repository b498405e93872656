use Rattle.gas_solver.proofs.Paid.{plan_pays}
use Rattle.gas_solver.proofs.laws.plan_pays.Goals as goal

pub returns : goal.returns
returns c = plan_pays
