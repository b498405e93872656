use Rattle.least_needs.proofs.AddedTerms.{added_free}
use Rattle.least_needs.proofs.laws.adding_free.Goals as goal

pub returns : goal.returns
returns c = added_free
