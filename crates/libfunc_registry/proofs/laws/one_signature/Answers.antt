use Rattle.libfunc_registry.proofs.Decided.{one_signature}
use Rattle.libfunc_registry.proofs.laws.one_signature.Goals as goal

pub returns : goal.returns
returns c = one_signature
