use Rattle.ap_refs.proofs.Alike.{same_variables}
use Rattle.ap_refs.proofs.laws.same_variables.Goals as goal

pub returns : goal.returns
returns c = same_variables
