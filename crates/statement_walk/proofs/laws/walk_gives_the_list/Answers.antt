use Rattle.statement_walk.proofs.Stopping.{joins}
use Rattle.statement_walk.proofs.laws.walk_gives_the_list.Goals as goal

pub returns : goal.returns
returns g c = joins
