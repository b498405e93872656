use Rattle.gas_solver.proofs.ClosedTerms.{closed}
use Rattle.gas_solver.proofs.EdgeLaws.{free_on}
use Rattle.gas_solver.proofs.laws.terms_fit.Goals as goal

pub returns-clause-closed : goal.returns-clause-closed
returns-clause-closed c = closed

pub returns-clause-free : goal.returns-clause-free
returns-clause-free c = free_on
