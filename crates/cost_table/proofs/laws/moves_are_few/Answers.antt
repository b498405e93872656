use Rattle.cost_table.proofs.Moves.{moves_are_few}
use Rattle.cost_table.proofs.laws.moves_are_few.Goals as goal

pub returns : goal.returns
returns c = moves_are_few
