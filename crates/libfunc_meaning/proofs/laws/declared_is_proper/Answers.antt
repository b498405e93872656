use Rattle.libfunc_meaning.proofs.Declared.{declared_is_proper}
use Rattle.libfunc_meaning.proofs.laws.declared_is_proper.Goals as goal

pub returns : goal.returns
returns c types sig is = declared_is_proper types is.0 sig is.1
