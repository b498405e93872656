use Rattle.std.proofs.Common.{◌≡◌, length}
use Rattle.linear_check.specs.Flow.{taken}
use Rattle.linear_check.proofs.steps.take_each.Given as goal

abbrev pub decreases-loop-variables : goal.decreases-loop-variables
decreases-loop-variables g l = length l.variables

abbrev pub invariant-loop-variables : goal.invariant-loop-variables
invariant-loop-variables g l = taken l.statement l.fn.variables l.fn.types (g.H.HeldSteps.held l.initial.held) ≡ taken l.statement l.variables l.types (g.H.HeldSteps.held l.held)
