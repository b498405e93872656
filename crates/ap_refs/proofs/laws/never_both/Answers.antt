use Rattle.ap_refs.proofs.Through.{never_both}
use Rattle.ap_refs.proofs.laws.never_both.Goals as goal

pub returns : goal.returns
returns c = never_both
