use Rattle.casm_word.proofs.ExpressionLaws.{lowered_twice}
use Rattle.casm_word.proofs.laws.lowered_twice.Goals as goal

pub returns : goal.returns
returns c = lowered_twice
