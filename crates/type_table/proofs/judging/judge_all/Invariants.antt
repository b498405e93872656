use Rattle.type_table.specs.Judged.{AreJudgedSoFar}
use Rattle.type_table.proofs.judging.judge_all.Given as goal

abbrev pub invariant-loop-i : goal.invariant-loop-i
invariant-loop-i l = AreJudgedSoFar l.declarations l.resolved.cycles.order l.i-index l.known.items l.first
