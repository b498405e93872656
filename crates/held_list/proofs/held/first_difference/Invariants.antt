use Rattle.std.proofs.Common.{◌≡◌, length}
use Rattle.held_list.specs.Editing.{differ}
use Rattle.held_list.proofs.held.first_difference.Given as goal

abbrev pub decreases-loop-left : goal.decreases-loop-left
decreases-loop-left g l = length l.left

abbrev pub invariant-loop-left : goal.invariant-loop-left
invariant-loop-left g l = differ g.A.PartialEq.eq l.left l.right ≡ differ g.A.PartialEq.eq l.fn.left l.fn.right
