use Rattle.frag_code.proofs.Meanings.{stretches_evaluate}
use Rattle.frag_code.proofs.laws.stretches_are_evaluations.Goals as goal

pub returns : goal.returns
returns c = stretches_evaluate
