use Rattle.held_list.proofs.Differing.{differ_least}
use Rattle.held_list.proofs.laws.differ_least.Goals as goal

pub returns : goal.returns
returns g c = λ decides x y. differ_least g.A.PartialEq.eq decides x y 0
