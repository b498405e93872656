use Rattle.std.proofs.Common.{◌≡◌, length}
use Rattle.linear_check.specs.Flow.{added}
use Rattle.linear_check.proofs.steps.add_each.Given as goal

abbrev pub decreases-loop-variables : goal.decreases-loop-variables
decreases-loop-variables g l = length l.variables

abbrev pub invariant-loop-variables : goal.invariant-loop-variables
invariant-loop-variables g l = added l.statement l.fn.variables l.fn.types (g.H.HeldSteps.held l.initial.held) ≡ added l.statement l.variables l.types (g.H.HeldSteps.held l.held)
