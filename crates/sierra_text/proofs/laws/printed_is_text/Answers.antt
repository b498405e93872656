use Rattle.sierra_text.proofs.PrintedTexts.{layout_is_text}
use Rattle.sierra_text.proofs.laws.printed_is_text.Goals as goal

pub returns : goal.returns
returns c = layout_is_text
