use Rattle.type_table.proofs.FunctionLaws.{DifferBefore}
use Rattle.type_table.proofs.functions.check_libfuncs.Given as goal

abbrev pub invariant-loop-i : goal.invariant-loop-i
invariant-loop-i l = DifferBefore l.libfuncs l.i
