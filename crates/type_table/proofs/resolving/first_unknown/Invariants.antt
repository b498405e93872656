use Rattle.std.proofs.Common.{◌≡◌, take, []}
use Rattle.type_table.specs.Resolving.{unknown_in}
use Rattle.type_table.proofs.resolving.first_unknown.Given as goal

abbrev pub invariant-loop-arg : goal.invariant-loop-arg
invariant-loop-arg l = unknown_in l.positions (take l.arg-index l.args) ≡ []
