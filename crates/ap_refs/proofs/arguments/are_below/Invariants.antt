use Rattle.std.proofs.Common.{◌≡◌, ◌<◌, ◌^◌, length}
use Rattle.ap_refs.specs.Arguments.{are_below}
use Rattle.ap_refs.proofs.arguments.are_below.Given as goal

abbrev pub decreases-loop-cells : goal.decreases-loop-cells
decreases-loop-cells l = length l.cells

abbrev pub invariant-loop-cells : goal.invariant-loop-cells
invariant-loop-cells l = (are_below l.fn.down l.fn.cells ≡ are_below l.down l.cells) × (l.down < 2 ^ 63)
