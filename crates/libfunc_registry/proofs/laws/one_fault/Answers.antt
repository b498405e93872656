use Rattle.libfunc_registry.proofs.Decided.{one_fault}
use Rattle.libfunc_registry.proofs.laws.one_fault.Goals as goal

pub returns : goal.returns
returns c = one_fault
