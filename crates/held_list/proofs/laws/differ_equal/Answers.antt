use Rattle.held_list.proofs.Differing.{differ_equal}
use Rattle.held_list.proofs.laws.differ_equal.Goals as goal

pub returns : goal.returns
returns g c = differ_equal g.A.PartialEq.eq
