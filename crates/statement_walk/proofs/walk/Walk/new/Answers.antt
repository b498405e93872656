use Rattle.std.proofs.Common.{◌≡◌, arith}
use Rattle.statement_walk.proofs.Storing.{marks_of_none}
use Rattle.statement_walk.proofs.walk.Walk.new.Goals as goal

pub returns : goal.returns
returns g c = let all : c.loop.counter ≡ c.args.statements = omega arith in marks_of_none _ _ _ _ c.loop.invariant all
