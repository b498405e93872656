use Rattle.std.proofs.Common.{slice_index}
use Rattle.gas_solver.specs.Plans.{amounts_from}
use Rattle.gas_solver.proofs.Listing.{Remaining}
use Rattle.gas_solver.proofs.costs.Costs.amounts.Given as goal

abbrev pub invariant-loop-s : goal.invariant-loop-s
invariant-loop-s l = Remaining (amounts_from l.self.program.now l.self.sigs.now (slice_index l.needs)) l.self.program.now.statements l.s l.amounts.items
