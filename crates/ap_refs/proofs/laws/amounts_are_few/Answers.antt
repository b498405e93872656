use Rattle.ap_refs.proofs.Amounts.{few_amounts}
use Rattle.ap_refs.proofs.laws.amounts_are_few.Goals as goal

pub returns : goal.returns
returns c = few_amounts
