use Rattle.libfunc_registry.proofs.Decided.{never_both}
use Rattle.libfunc_registry.proofs.laws.never_both.Goals as goal

pub returns : goal.returns
returns c = never_both
