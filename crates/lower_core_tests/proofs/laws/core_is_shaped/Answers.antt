use Rattle.lower_core_tests.proofs.Asked.{core_shaped}
use Rattle.lower_core_tests.proofs.laws.core_is_shaped.Goals as goal

pub returns : goal.returns
returns c = core_shaped
