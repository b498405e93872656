use Rattle.frag_plan.proofs.Shapes.{shaped}
use Rattle.frag_plan.proofs.laws.plans_are_shaped.Goals as goal

pub returns : goal.returns
returns c = shaped
