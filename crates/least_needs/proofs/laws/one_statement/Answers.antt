use Rattle.least_needs.proofs.OneAnswer.{one_statement}
use Rattle.least_needs.proofs.laws.one_statement.Goals as goal

pub returns : goal.returns
returns c = one_statement
