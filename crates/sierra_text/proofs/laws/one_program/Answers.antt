use Rattle.sierra_text.proofs.Refusing.{same_program}
use Rattle.sierra_text.proofs.laws.one_program.Goals as goal

pub returns : goal.returns
returns c = same_program
