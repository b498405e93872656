use Rattle.std.proofs.Common.{◌≡◌, [], length, map}
use Rattle.linear_check.specs.Statements.{held_with}
use Rattle.linear_check.proofs.steps.hold_each.Given as goal

abbrev pub decreases-loop-params : goal.decreases-loop-params
decreases-loop-params g l = length l.params

abbrev pub invariant-loop-params : goal.invariant-loop-params
invariant-loop-params g l = held_with (g.H.HeldSteps.held l.initial.held) (map (λ x. x.0) l.fn.params) l.fn.types ≡ held_with (g.H.HeldSteps.held l.held) (map (λ x. x.0) l.params) l.types
