use Rattle.entry_check.proofs.Entries.{entry_or_fault}
use Rattle.entry_check.proofs.laws.entry_or_fault.Goals as goal

pub returns : goal.returns
returns c = entry_or_fault
