use Rattle.casm_steps.proofs.Paths.{path_append, inside_append}
use Rattle.casm_steps.proofs.laws.paths_join.Goals as goal

pub returns-clause-path : goal.returns-clause-path
returns-clause-path c = path_append

pub returns-clause-inside : goal.returns-clause-inside
returns-clause-inside c = inside_append
