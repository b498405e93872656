use Rattle.least_needs.proofs.OneAnswer.{not_small_and_large, not_small_on_a_cycle, not_large_on_a_cycle}
use Rattle.least_needs.proofs.laws.never_two.Goals as goal

pub returns-clause-small : goal.returns-clause-small
returns-clause-small c = not_small_and_large

pub returns-clause-small_cycle : goal.returns-clause-small_cycle
returns-clause-small_cycle c = not_small_on_a_cycle

pub returns-clause-large_cycle : goal.returns-clause-large_cycle
returns-clause-large_cycle c = not_large_on_a_cycle
