use Rattle.ap_refs.proofs.Deciding.{one_fault}
use Rattle.ap_refs.proofs.laws.one_fault.Goals as goal

pub returns : goal.returns
returns c = one_fault
