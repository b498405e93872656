use Rattle.frag_fills.proofs.Lines.{plan_filling}
use Rattle.frag_fills.proofs.laws.plans_fill.Goals as goal

pub returns : goal.returns
returns c = plan_filling
