use Rattle.std.proofs.Common.{map}
use Rattle.type_table.proofs.Ids.{AreTaken}
use Rattle.type_table.proofs.named.all_ids.Given as goal

abbrev pub invariant-loop-i : goal.invariant-loop-i
invariant-loop-i g l = AreTaken (map g.D.HasId.id_of l.declarations) l.i l.positions l.repeated.items
