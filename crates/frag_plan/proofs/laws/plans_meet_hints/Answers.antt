use Rattle.frag_plan.proofs.Hints.{hints_are_met}
use Rattle.frag_plan.proofs.laws.plans_meet_hints.Goals as goal

pub returns : goal.returns
returns c = hints_are_met
