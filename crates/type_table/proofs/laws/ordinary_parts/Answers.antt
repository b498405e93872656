use Rattle.type_table.proofs.DecidedParts as parts
use Rattle.type_table.proofs.laws.ordinary_parts.Goals as goal

pub returns : goal.returns
returns c = parts.ordinary_parts
