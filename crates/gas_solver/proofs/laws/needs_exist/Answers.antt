use Rattle.least_needs.proofs.Finding.{there_are, least_of}
use Rattle.least_needs.proofs.RankLaws.{at_least, none_on_a_cycle}
use Rattle.gas_solver.specs.Terms.{program_terms}
use Rattle.gas_solver.proofs.ClosedTerms.{closed}
use Rattle.gas_solver.proofs.EdgeLaws.{free_on}
use Rattle.gas_solver.proofs.laws.needs_exist.Goals as goal

pub returns : goal.returns
returns c p t sigs a has signatures typed =
    let inside = closed p t sigs a has signatures typed in
    let free = free_on p t sigs a has signatures typed in (
      λ needs. none_on_a_cycle (program_terms p t sigs) inside free needs.0 (at_least (program_terms p t sigs) needs.0 needs.1.meets),
      λ acyclic. (least_of (program_terms p t sigs), there_are (program_terms p t sigs) inside acyclic),
    )
