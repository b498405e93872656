use Rattle.statement_walk.proofs.Shapes.{same_shape}
use Rattle.statement_walk.proofs.laws.same_shape_fails_by_its_own.Goals as goal

pub returns : goal.returns
returns g c = same_shape
