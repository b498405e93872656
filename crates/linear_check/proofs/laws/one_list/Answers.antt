use Rattle.linear_check.proofs.Deciding.{one_list}
use Rattle.linear_check.proofs.laws.one_list.Goals as goal

pub returns : goal.returns
returns c = one_list
