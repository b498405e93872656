use Rattle.graph_cycles.proofs.Uses.{adding_below}
use Rattle.graph_cycles.proofs.laws.adding_below.Goals as goal

pub returns : goal.returns
returns c = adding_below
