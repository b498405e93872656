use Rattle.sierra_tool.proofs.Causes.{one_answer}
use Rattle.sierra_tool.proofs.laws.one_answer.Goals as goal

pub returns : goal.returns
returns c = one_answer c.known.ensures
