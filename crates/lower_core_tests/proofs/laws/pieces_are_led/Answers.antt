use Rattle.lower_core_tests.proofs.Asked.{led}
use Rattle.lower_core_tests.proofs.laws.pieces_are_led.Goals as goal

pub returns : goal.returns
returns c = led
