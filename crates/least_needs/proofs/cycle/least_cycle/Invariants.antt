use Rattle.least_needs.proofs.Going.{IsPath, distance_of}
use Rattle.least_needs.proofs.cycle.least_cycle.Given as goal

abbrev pub invariant-loop-next : goal.invariant-loop-next
invariant-loop-next l = IsPath l.graph l.start l.nodes.items l.next

abbrev pub decreases-loop-next : goal.decreases-loop-next
decreases-loop-next l = distance_of l.distances.items l.next
