use Rattle.gas_solver.proofs.Balanced.{balanced, functions_balanced}
use Rattle.gas_solver.proofs.laws.builtins_balance.Goals as goal

pub returns-clause-statements : goal.returns-clause-statements
returns-clause-statements c = balanced

pub returns-clause-functions : goal.returns-clause-functions
returns-clause-functions c = functions_balanced
