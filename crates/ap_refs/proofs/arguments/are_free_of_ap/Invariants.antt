use Rattle.std.proofs.Common.{◌≡◌, length}
use Rattle.ap_refs.specs.Arguments.{are_free_of_ap}
use Rattle.ap_refs.proofs.arguments.are_free_of_ap.Given as goal

abbrev pub decreases-loop-cells : goal.decreases-loop-cells
decreases-loop-cells l = length l.cells

abbrev pub invariant-loop-cells : goal.invariant-loop-cells
invariant-loop-cells l = are_free_of_ap l.fn.cells ≡ are_free_of_ap l.cells
