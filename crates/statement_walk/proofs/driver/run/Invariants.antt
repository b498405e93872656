use Rattle.statement_walk.specs.Turning.{IsState}
use Rattle.statement_walk.proofs.Left.{left}
use Rattle.statement_walk.proofs.driver.run.Given as goal

abbrev pub decreases-loop-statement : goal.decreases-loop-statement
decreases-loop-statement g l = left (g.R.WalkRules.rules l.rules) (record { trace = l.walk; turn = l.entered })

abbrev pub invariant-loop-statement : goal.invariant-loop-statement
invariant-loop-statement g l = IsState (g.R.WalkRules.rules l.rules) l.walk l.entered
