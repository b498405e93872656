use Rattle.type_table.proofs.Decided as decided
use Rattle.type_table.proofs.laws.one_table.Goals as goal

pub returns : goal.returns
returns c = decided.one_table
