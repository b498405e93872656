use Rattle.std.proofs.Common.{◌≡◌, take}
use Rattle.gas_solver.proofs.solving.numbers.Given as goal

abbrev pub invariant-loop-statement : goal.invariant-loop-statement
invariant-loop-statement l = l.numbers.items ≡ take l.statement-index l.statements
