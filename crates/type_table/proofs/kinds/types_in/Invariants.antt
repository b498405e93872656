use Rattle.std.proofs.Common.{◌≡◌, ◌≤◌, take, length}
use Rattle.type_table.specs.Refusals.{named_types}
use Rattle.type_table.proofs.kinds.types_in.Given as goal

abbrev pub invariant-loop-arg : goal.invariant-loop-arg
invariant-loop-arg l = (l.types ≡ length (named_types (take l.arg-index l.args))) × (l.types ≤ l.arg-index)
