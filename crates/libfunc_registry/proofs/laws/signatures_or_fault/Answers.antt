use Rattle.libfunc_registry.proofs.Decided.{signatures_or_fault}
use Rattle.libfunc_registry.proofs.laws.signatures_or_fault.Goals as goal

pub returns : goal.returns
returns c = signatures_or_fault
