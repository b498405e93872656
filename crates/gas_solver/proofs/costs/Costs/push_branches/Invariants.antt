use Rattle.gas_solver.specs.Terms.{branch_terms}
use Rattle.gas_solver.proofs.Listing.{Remaining}
use Rattle.gas_solver.proofs.costs.Costs.push_branches.Given as goal

abbrev pub invariant-loop-k : goal.invariant-loop-k
invariant-loop-k l = Remaining (branch_terms l.self.program.now l.self.types.now l.sig l.s) l.branches l.k l.own.items
