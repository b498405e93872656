use Rattle.type_table.proofs.Decided as decided
use Rattle.type_table.proofs.laws.never_memory.Goals as goal

pub returns : goal.returns
returns c = decided.never_memory
