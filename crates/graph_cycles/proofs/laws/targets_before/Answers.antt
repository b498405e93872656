use Rattle.graph_cycles.proofs.Uses.{targets_before}
use Rattle.graph_cycles.proofs.laws.targets_before.Goals as goal

pub returns : goal.returns
returns c = targets_before
