use Rattle.ap_refs.proofs.Through.{one_list}
use Rattle.ap_refs.proofs.laws.one_list.Goals as goal

pub returns : goal.returns
returns c = one_list
