use Rattle.std.proofs.Common.{◌≡◌, length}
use Rattle.ap_refs.specs.Arguments.{first_unmarked}
use Rattle.ap_refs.proofs.arguments.first_unmarked.Given as goal

abbrev pub decreases-loop-marks : goal.decreases-loop-marks
decreases-loop-marks l = length l.marks

abbrev pub invariant-loop-marks : goal.invariant-loop-marks
invariant-loop-marks l = first_unmarked l.fn.marks l.fn.args ≡ first_unmarked l.marks l.args
