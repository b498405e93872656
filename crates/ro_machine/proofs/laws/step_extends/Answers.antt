use Rattle.ro_machine.proofs.ExtendLaws.{step_extends}
use Rattle.ro_machine.proofs.laws.step_extends.Goals as goal

pub returns : goal.returns
returns c = step_extends
