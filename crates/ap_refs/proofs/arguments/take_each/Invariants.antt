use Rattle.std.proofs.Common.{◌≡◌, ◌++◌, length}
use Rattle.ap_refs.specs.Arguments.{taken}
use Rattle.ap_refs.proofs.arguments.take_each.Given as goal

abbrev pub decreases-loop-variables : goal.decreases-loop-variables
decreases-loop-variables g l = length l.variables

abbrev pub invariant-loop-variables : goal.invariant-loop-variables
invariant-loop-variables g l = taken l.fn.variables (g.H.HeldSteps.held l.initial.held) ≡ (l.args.items ++ (taken l.variables (g.H.HeldSteps.held l.held)).0, (taken l.variables (g.H.HeldSteps.held l.held)).1)
