use Rattle.std.proofs.Common.{map, take}
use Rattle.type_table.specs.Signatures.{AreFound}
use Rattle.type_table.proofs.signatures.types_in.Given as goal

abbrev pub invariant-loop-item : goal.invariant-loop-item
invariant-loop-item g l = AreFound l.positions (map g.T.HasType.type_of (take l.item-index l.named)) l.types.items
