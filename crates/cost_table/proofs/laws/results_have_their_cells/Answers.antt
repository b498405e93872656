use Rattle.cost_table.proofs.ResultCounts.{results_many}
use Rattle.cost_table.proofs.laws.results_have_their_cells.Goals as goal

pub returns : goal.returns
returns c = results_many
