use Rattle.gas_solver.proofs.OneText.{one_text}
use Rattle.gas_solver.proofs.laws.one_text.Goals as goal

pub returns : goal.returns
returns c = one_text
