use Rattle.lower_core_tests.proofs.Asked.{code_short}
use Rattle.lower_core_tests.proofs.laws.codes_are_short.Goals as goal

pub returns : goal.returns
returns c = code_short
