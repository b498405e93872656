use Rattle.std.proofs.Common.{◌≡◌, map, take}
use Rattle.sierra_meaning.specs.Idle.{idle_in}
use Rattle.sierra_meaning.proofs.resolved.idle_of.Given as goal

abbrev pub invariant-loop-statement : goal.invariant-loop-statement
invariant-loop-statement l = l.idle.items ≡ map (idle_in l.declared l.sigs) (take l.statement-index l.statements)
