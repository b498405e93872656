use Rattle.frag_code.proofs.Meanings.{evaluations_stretch}
use Rattle.frag_code.proofs.laws.evaluations_are_stretches.Goals as goal

pub returns : goal.returns
returns c = evaluations_stretch
