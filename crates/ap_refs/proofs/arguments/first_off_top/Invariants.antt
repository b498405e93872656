use Rattle.std.proofs.Common.{◌≡◌, ◌<◌, ◌^◌, length}
use Rattle.ap_refs.specs.Arguments.{first_off_top}
use Rattle.ap_refs.proofs.arguments.first_off_top.Given as goal

abbrev pub decreases-loop-args : goal.decreases-loop-args
decreases-loop-args l = length l.args

abbrev pub invariant-loop-args : goal.invariant-loop-args
invariant-loop-args l = (first_off_top l.fn.down l.fn.args ≡ first_off_top l.down l.args) × (l.down < 2 ^ 63)
