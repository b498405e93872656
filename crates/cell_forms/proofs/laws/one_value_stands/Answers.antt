use Rattle.cell_forms.specs.Standing.{Asked}
use Rattle.cell_forms.proofs.Once.{value_once}
use Rattle.cell_forms.proofs.laws.one_value_stands.Goals as goal

pub returns : goal.returns
returns c padding m ty cells v w plain counted h g = value_once (Asked padding) _ _ m ty cells v w plain counted h g
