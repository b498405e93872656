use Rattle.libfunc_meaning.proofs.Answering.{one_answer}
use Rattle.libfunc_meaning.proofs.laws.one_answer.Goals as goal

pub returns : goal.returns
returns c = one_answer
