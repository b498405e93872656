use Rattle.cost_table.proofs.Charges.{leaving_charged}
use Rattle.cost_table.proofs.laws.leaving_is_charged.Goals as goal

pub returns-clause-branches : goal.returns-clause-branches
returns-clause-branches c = leaving_charged
