use Rattle.least_needs.specs.Nearest.{IsBest}
use Rattle.least_needs.proofs.cycle.nearest.Given as goal

abbrev pub invariant-loop-node : goal.invariant-loop-node
invariant-loop-node l = IsBest l.nodes l.distances l.node-index l.best
