use Rattle.type_table.proofs.Decided as decided
use Rattle.type_table.proofs.laws.types_or_fault.Goals as goal

pub returns : goal.returns
returns c = decided.types_or_fault
