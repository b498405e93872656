use Rattle.gas_solver.specs.Terms.{terms_from}
use Rattle.gas_solver.proofs.Listing.{Remaining}
use Rattle.gas_solver.proofs.costs.Costs.all_terms.Given as goal

abbrev pub invariant-loop-s : goal.invariant-loop-s
invariant-loop-s l = Remaining (terms_from l.self.program.now l.self.types.now l.self.sigs.now) l.self.program.now.statements l.s l.all
