use Rattle.std.proofs.Common.{◌≡◌, Some, take}
use Rattle.type_table.specs.Outcomes.{parts_at}
use Rattle.type_table.proofs.judging.parts_at.Given as goal

abbrev pub invariant-loop-t : goal.invariant-loop-t
invariant-loop-t l = parts_at l.known (take l.t-index l.targets) ≡ Some l.parts.items
