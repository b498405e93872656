use Rattle.ro_machine.proofs.StepLaws.{step_or_stops}
use Rattle.ro_machine.proofs.laws.steps_or_stops.Goals as goal

pub returns : goal.returns
returns c = step_or_stops
