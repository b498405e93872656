use Rattle.ro_machine.proofs.StepLaws.{step_functional}
use Rattle.ro_machine.proofs.laws.one_step.Goals as goal

pub returns : goal.returns
returns c = step_functional
