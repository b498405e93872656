use Rattle.std.proofs.Common.{◌≡◌, map, take}
use Rattle.sierra_meaning.specs.Turns.{position_in}
use Rattle.sierra_meaning.proofs.resolved.positions_of.Given as goal

abbrev pub invariant-loop-statement : goal.invariant-loop-statement
invariant-loop-statement l = l.positions.items ≡ map (position_in l.declared) (take l.statement-index l.statements)
