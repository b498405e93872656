use Rattle.libfunc_meaning.proofs.Answering.{types_are_kept}
use Rattle.libfunc_meaning.proofs.laws.types_are_kept.Goals as goal

pub returns : goal.returns
returns c = types_are_kept
