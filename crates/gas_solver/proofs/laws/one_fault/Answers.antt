use Rattle.gas_solver.proofs.OneAnswer.{not_memory, one_fault}
use Rattle.gas_solver.proofs.laws.one_fault.Goals as goal

pub returns : goal.returns
returns c = λ p t sigs main x y is also. one_fault p t sigs main x y (not_memory p t sigs main x is) (not_memory p t sigs main y also) is also
