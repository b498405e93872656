use Rattle.linear_check.proofs.Deciding.{one_fault}
use Rattle.linear_check.proofs.laws.one_fault.Goals as goal

pub returns : goal.returns
returns c = one_fault
