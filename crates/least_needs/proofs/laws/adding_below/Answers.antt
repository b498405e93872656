use Rattle.least_needs.proofs.AddedTerms.{added_below}
use Rattle.least_needs.proofs.laws.adding_below.Goals as goal

pub returns : goal.returns
returns c = added_below
