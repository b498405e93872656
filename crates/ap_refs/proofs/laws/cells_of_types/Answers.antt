use Rattle.ap_refs.proofs.Sizes.{sized}
use Rattle.ap_refs.proofs.laws.cells_of_types.Goals as goal

pub returns : goal.returns
returns c = sized
