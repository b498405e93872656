use Rattle.statement_walk.proofs.Stopping.{stops_some, stops_same}
use Rattle.statement_walk.proofs.laws.stops_once.Goals as goal

pub returns : goal.returns
returns g c = record { some = stops_some; one = λ r lawful. stops_same r }
