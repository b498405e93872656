use Rattle.linear_check.proofs.OneWayIn.{alone, few}
use Rattle.linear_check.proofs.laws.one_way_in.Goals as goal

pub returns : goal.returns
returns c = record { alone = alone; few = few }
