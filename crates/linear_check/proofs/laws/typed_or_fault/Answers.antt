use Rattle.linear_check.proofs.Deciding.{typed_or_fault}
use Rattle.linear_check.proofs.laws.typed_or_fault.Goals as goal

pub returns : goal.returns
returns c = typed_or_fault
