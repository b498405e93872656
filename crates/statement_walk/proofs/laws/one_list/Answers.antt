use Rattle.statement_walk.proofs.Stopping.{one_list}
use Rattle.statement_walk.proofs.laws.one_list.Goals as goal

pub returns : goal.returns
returns g c = one_list
