use Rattle.cost_table.proofs.LastCells.{new_are_last}
use Rattle.cost_table.proofs.laws.new_cells_are_last.Goals as goal

pub returns : goal.returns
returns c = new_are_last
