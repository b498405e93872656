use Rattle.type_table.specs.Made.{AreMadeTo}
use Rattle.type_table.proofs.rows.rows_of.Given as goal

abbrev pub invariant-loop-i : goal.invariant-loop-i
invariant-loop-i l = AreMadeTo l.declarations l.i l.rows.items
