use Rattle.std.proofs.Common.{◌≡◌, drop}
use Rattle.least_needs.specs.Distances.{found, all_reached}
use Rattle.least_needs.proofs.distances.reach_all.Given as goal

abbrev pub invariant-loop-node : goal.invariant-loop-node
invariant-loop-node l = all_reached l.edges (found l.distances l.next.items) (drop l.node-index l.nodes) ≡ all_reached l.edges (found l.initial.distances l.initial.next.items) l.nodes
