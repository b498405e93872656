use Rattle.ap_refs.proofs.Joining.{placed_by_rules}
use Rattle.ap_refs.proofs.Through.{lawful, through}
use Rattle.ap_refs.proofs.laws.placed_by_the_rules.Goals as goal

pub returns-clause-lawful : goal.returns-clause-lawful
returns-clause-lawful c = lawful

pub returns-clause-fits : goal.returns-clause-fits
returns-clause-fits c = placed_by_rules

pub returns-clause-through : goal.returns-clause-through
returns-clause-through c = through
