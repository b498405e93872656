use Rattle.ap_refs.proofs.Lists.{copied}
use Rattle.ap_refs.proofs.moves.copy.Goals as goal

pub returns : goal.returns
returns c = copied _ c.clone.result c.args.held.now c.clone.ensures.cases
