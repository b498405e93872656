use Rattle.std.proofs.Common.{◌+◌, ◌*◌, length}
use Rattle.least_needs.specs.Distances.{unreached}
use Rattle.least_needs.proofs.Layers.{AreLayers}
use Rattle.least_needs.proofs.distances.distances_to.Given as goal

abbrev pub invariant-loop-alloc : goal.invariant-loop-alloc
invariant-loop-alloc l = AreLayers l.graph l.start l.edges l.distances.items l.layer.items

abbrev pub decreases-loop-alloc : goal.decreases-loop-alloc
decreases-loop-alloc l = 2 * unreached l.distances.items + length l.layer.items
