use Rattle.cost_table.proofs.Charges.{free_or_ten}
use Rattle.cost_table.proofs.laws.free_or_ten.Goals as goal

pub returns : goal.returns
returns c = free_or_ten
