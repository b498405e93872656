use Rattle.std.proofs.Common.{◌≡◌, None, replicate}
use Rattle.statement_walk.proofs.walk.Walk.new.Given as goal

abbrev pub invariant-loop : goal.invariant-loop
invariant-loop g l = l.stored.items ≡ replicate l.counter None
