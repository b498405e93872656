use Rattle.casm_steps.proofs.Instructions.{executes}
use Rattle.casm_steps.proofs.laws.instructions_execute.Goals as goal

pub returns : goal.returns
returns c = λ m i s t near small has step. executes m s small i t near has step
