use Rattle.cost_table.proofs.Charges.{moves_charged}
use Rattle.cost_table.proofs.laws.moves_are_charged.Goals as goal

pub returns : goal.returns
returns c = moves_charged
