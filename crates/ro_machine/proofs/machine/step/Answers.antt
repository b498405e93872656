use Rattle.ro_machine.proofs.StepLaws.{ok_is_step, err_stops}
use Rattle.ro_machine.proofs.machine.step.Goals as goal

pub returns-clause-step : goal.returns-clause-step
returns-clause-step c = ok_is_step _ _ _ c.stepped.ensures

pub returns-clause-stops : goal.returns-clause-stops
returns-clause-stops c = err_stops _ _ _ c.stepped.ensures
