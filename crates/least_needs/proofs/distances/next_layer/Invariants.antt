use Rattle.std.proofs.Common.{◌≡◌, [], drop}
use Rattle.least_needs.specs.Distances.{found, layer_reached, lists_of}
use Rattle.least_needs.proofs.distances.next_layer.Given as goal

abbrev pub invariant-loop-node : goal.invariant-loop-node
invariant-loop-node l = layer_reached (lists_of l.sources) l.edges (found l.distances l.next.items) (drop l.node-index l.layer) ≡ layer_reached (lists_of l.sources) l.edges (found l.initial.distances []) l.layer
