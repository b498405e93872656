use Rattle.type_table.proofs.ShapeLaws.{AreFoundBefore}
use Rattle.type_table.proofs.shapes.shapes_of.Given as goal

abbrev pub invariant-loop-i : goal.invariant-loop-i
invariant-loop-i l = AreFoundBefore l.rows l.i l.shapes
