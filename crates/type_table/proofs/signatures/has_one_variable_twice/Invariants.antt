use Rattle.std.specs.Prelude.{nat_eq}
use Rattle.std.specs.HashSet.{contains}
use Rattle.type_table.proofs.SignatureLaws.{VariablesDiffer}
use Rattle.type_table.proofs.signatures.has_one_variable_twice.Given as goal

abbrev pub invariant-loop-param : goal.invariant-loop-param
invariant-loop-param l = VariablesDiffer l.params l.param-index (contains nat_eq l.variables)
