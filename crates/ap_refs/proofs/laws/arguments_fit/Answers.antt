use Rattle.ap_refs.proofs.Sizes.{arguments_fit}
use Rattle.ap_refs.proofs.laws.arguments_fit.Goals as goal

pub returns : goal.returns
returns c = arguments_fit
