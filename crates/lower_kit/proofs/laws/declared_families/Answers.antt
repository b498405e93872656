use Rattle.lower_kit.proofs.Declared.{declared_families}
use Rattle.lower_kit.proofs.laws.declared_families.Goals as goal

pub returns : goal.returns
returns c = declared_families
