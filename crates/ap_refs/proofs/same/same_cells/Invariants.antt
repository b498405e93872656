use Rattle.std.proofs.Common.{◌≡◌, length}
use Rattle.ap_refs.specs.Flow.{same_cells}
use Rattle.ap_refs.proofs.same.same_cells.Given as goal

abbrev pub decreases-loop-left : goal.decreases-loop-left
decreases-loop-left l = length l.left

abbrev pub invariant-loop-left : goal.invariant-loop-left
invariant-loop-left l = same_cells l.left l.right ≡ same_cells l.fn.left l.fn.right
