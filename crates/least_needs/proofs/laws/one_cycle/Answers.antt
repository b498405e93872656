use Rattle.least_needs.proofs.OneAnswer.{one_cycle}
use Rattle.least_needs.proofs.laws.one_cycle.Goals as goal

pub returns : goal.returns
returns c = one_cycle
