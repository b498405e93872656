use Rattle.libfunc_meaning.proofs.Answering.{never_stuck}
use Rattle.libfunc_meaning.proofs.laws.never_stuck.Goals as goal

pub returns : goal.returns
returns c = never_stuck
