use Rattle.linear_check.proofs.Giving.{SoFar}
use Rattle.linear_check.proofs.linear.Linear.give_all.Given as goal

abbrev pub invariant-loop-k : goal.invariant-loop-k
invariant-loop-k l = SoFar l.self.program.now l.self.sigs.now l.statement l.several l.rest l.branches l.types l.k l.given.items
