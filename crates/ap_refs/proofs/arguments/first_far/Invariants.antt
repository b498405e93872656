use Rattle.std.proofs.Common.{◌≡◌, length}
use Rattle.ap_refs.specs.Arguments.{first_far}
use Rattle.ap_refs.proofs.arguments.first_far.Given as goal

abbrev pub decreases-loop-args : goal.decreases-loop-args
decreases-loop-args l = length l.args

abbrev pub invariant-loop-args : goal.invariant-loop-args
invariant-loop-args l = first_far l.fn.args ≡ first_far l.args
