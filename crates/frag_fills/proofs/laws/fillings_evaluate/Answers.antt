use Rattle.frag_fills.proofs.Fillings.{filling_evaluates}
use Rattle.frag_fills.proofs.laws.fillings_evaluate.Goals as goal

pub returns : goal.returns
returns c = filling_evaluates
