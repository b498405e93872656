use Rattle.least_needs.proofs.CutNeeds.{AreCutSo}
use Rattle.least_needs.proofs.solving.cut_needs.Given as goal

abbrev pub invariant-loop-statement : goal.invariant-loop-statement
invariant-loop-statement l = AreCutSo l.terms l.order l.statement-index l.needs.items
