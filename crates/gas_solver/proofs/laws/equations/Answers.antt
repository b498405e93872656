use Rattle.gas_solver.proofs.EquationLaws.{equations}
use Rattle.gas_solver.proofs.laws.equations.Goals as goal

pub returns : goal.returns
returns c = equations
