use Rattle.ro_machine.proofs.StepLaws.{stops_functional, stops_no_step}
use Rattle.ro_machine.proofs.laws.one_stop.Goals as goal

pub returns-clause-faults : goal.returns-clause-faults
returns-clause-faults c = stops_functional

pub returns-clause-no_step : goal.returns-clause-no_step
returns-clause-no_step c = stops_no_step
