use Rattle.least_needs.proofs.RankLaws.{none_on_a_cycle}
use Rattle.least_needs.proofs.laws.none_on_a_cycle.Goals as goal

pub returns : goal.returns
returns c = none_on_a_cycle
