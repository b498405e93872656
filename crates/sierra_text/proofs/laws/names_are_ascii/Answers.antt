use Rattle.sierra_text.proofs.PrintedTexts.{names_ascii}
use Rattle.sierra_text.proofs.laws.names_are_ascii.Goals as goal

pub returns : goal.returns
returns c = names_ascii
