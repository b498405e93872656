use Rattle.value_trees.specs.Of.{AreWords, IsOpenMap}
use Rattle.value_trees.proofs.Typed.{all_of_both, both_of_all}
use Rattle.value_trees.proofs.laws.values_of_both.Goals as goal

pub returns-clause-together : goal.returns-clause-together
returns-clause-together c = all_of_both AreWords IsOpenMap

pub returns-clause-apart : goal.returns-clause-apart
returns-clause-apart c = both_of_all AreWords IsOpenMap
