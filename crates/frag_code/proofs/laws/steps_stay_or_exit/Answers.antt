use Rattle.frag_code.proofs.Meanings.{stays_or_exits}
use Rattle.frag_code.proofs.laws.steps_stay_or_exit.Goals as goal

pub returns : goal.returns
returns c = stays_or_exits
