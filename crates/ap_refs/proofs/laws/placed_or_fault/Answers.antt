use Rattle.ap_refs.proofs.Through.{placed_or_fault}
use Rattle.ap_refs.proofs.laws.placed_or_fault.Goals as goal

pub returns : goal.returns
returns c = placed_or_fault
