use Rattle.least_needs.proofs.Deciding.{cycle_named}
use Rattle.least_needs.proofs.laws.a_cycle_is_named.Goals as goal

pub returns : goal.returns
returns c = cycle_named
