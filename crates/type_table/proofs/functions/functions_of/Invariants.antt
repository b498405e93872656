use Rattle.type_table.proofs.FunctionLaws.{SoFar}
use Rattle.type_table.proofs.functions.functions_of.Given as goal

abbrev pub invariant-loop-i : goal.invariant-loop-i
invariant-loop-i l = SoFar l.program l.i l.ids l.signatures.items
