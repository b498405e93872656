use Rattle.sierra_tool.proofs.Causes.{some_answer}
use Rattle.sierra_tool.proofs.laws.some_answer.Goals as goal

pub returns : goal.returns
returns c = some_answer c.known.ensures
