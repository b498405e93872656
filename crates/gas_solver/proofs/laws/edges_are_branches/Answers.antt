use Rattle.gas_solver.proofs.EdgeLaws.{edges}
use Rattle.gas_solver.proofs.laws.edges_are_branches.Goals as goal

pub returns : goal.returns
returns c = edges
