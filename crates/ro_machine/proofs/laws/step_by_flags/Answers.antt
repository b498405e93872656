use Rattle.ro_machine.proofs.StepLaws.{step_parts}
use Rattle.ro_machine.proofs.laws.step_by_flags.Goals as goal

pub returns : goal.returns
returns c = step_parts
