use Rattle.sierra_meaning.proofs.MeaningLaws.{one_meaning}
use Rattle.sierra_meaning.proofs.meanings.one_meaning.Goals as goal

pub returns : goal.returns
returns c = one_meaning
