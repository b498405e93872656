use Rattle.program_checks.proofs.Checks.{one_gas_plan}
use Rattle.program_checks.proofs.laws.one_gas_plan.Goals as goal

pub returns : goal.returns
returns c = one_gas_plan
