use Rattle.std.proofs.Common.{◌≡◌, length}
use Rattle.held_list.specs.Editing.{differ}
use Rattle.ap_refs.specs.Flow.{same_cells}
use Rattle.ap_refs.proofs.same.first_difference.Given as goal

abbrev pub decreases-loop-left : goal.decreases-loop-left
decreases-loop-left l = length l.left

abbrev pub invariant-loop-left : goal.invariant-loop-left
invariant-loop-left l = differ same_cells l.left l.right ≡ differ same_cells l.fn.left l.fn.right
