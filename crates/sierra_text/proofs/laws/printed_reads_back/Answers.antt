use Rattle.sierra_text.proofs.Refusing.{layout_reads_back}
use Rattle.sierra_text.proofs.laws.printed_reads_back.Goals as goal

pub returns : goal.returns
returns c = layout_reads_back
