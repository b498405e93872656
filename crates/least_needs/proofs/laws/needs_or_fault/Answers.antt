use Rattle.least_needs.proofs.Deciding.{needs_or_fault}
use Rattle.least_needs.proofs.laws.needs_or_fault.Goals as goal

pub returns : goal.returns
returns c = needs_or_fault
