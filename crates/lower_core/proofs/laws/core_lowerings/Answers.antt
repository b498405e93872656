use Rattle.lower_core.proofs.CoreLowers.{core_lowers}
use Rattle.lower_core.proofs.laws.core_lowerings.Goals as goal

pub returns : goal.returns
returns c fam args amount core taken = core_lowers fam args amount core taken
