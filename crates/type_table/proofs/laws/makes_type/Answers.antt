use Rattle.type_table.proofs.DecidedReached as reached
use Rattle.type_table.proofs.laws.makes_type.Goals as goal

pub returns-clause-made : goal.returns-clause-made
returns-clause-made c = reached.made_reaches

pub returns-clause-reached : goal.returns-clause-reached
returns-clause-reached c = reached.reaches_makes
