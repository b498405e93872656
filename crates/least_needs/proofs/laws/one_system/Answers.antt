use Rattle.least_needs.proofs.OneAnswer.{one_system, one_list}
use Rattle.least_needs.proofs.laws.one_system.Goals as goal

pub returns-clause-each : goal.returns-clause-each
returns-clause-each c = one_system

pub returns-clause-list : goal.returns-clause-list
returns-clause-list c = one_list
