use Rattle.std.proofs.Common.{◌≡◌, ◌++◌, length}
use Rattle.ap_refs.specs.Arguments.{joined}
use Rattle.ap_refs.proofs.arguments.join.Given as goal

abbrev pub decreases-loop-args : goal.decreases-loop-args
decreases-loop-args l = length l.args

abbrev pub invariant-loop-args : goal.invariant-loop-args
invariant-loop-args l = joined l.fn.args ≡ l.cells.items ++ joined l.args
