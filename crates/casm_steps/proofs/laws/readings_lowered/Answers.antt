use Rattle.casm_steps.proofs.Readings.{reading_lowered}
use Rattle.casm_steps.proofs.laws.readings_lowered.Goals as goal

pub returns : goal.returns
returns c = λ m a fp n e above. reading_lowered a fp n m e above
