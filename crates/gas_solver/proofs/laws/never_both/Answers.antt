use Rattle.gas_solver.proofs.OneAnswer.{not_memory, never_both}
use Rattle.gas_solver.proofs.laws.never_both.Goals as goal

pub returns : goal.returns
returns c = λ p t sigs main plan fault is wrong. never_both p t sigs main plan fault is (not_memory p t sigs main fault wrong) wrong
