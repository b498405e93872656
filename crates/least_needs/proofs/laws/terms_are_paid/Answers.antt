use Rattle.least_needs.proofs.AddedTerms.{paid}
use Rattle.least_needs.proofs.RankLaws.{at_least}
use Rattle.least_needs.proofs.laws.terms_are_paid.Goals as goal

pub returns-clause-paid : goal.returns-clause-paid
returns-clause-paid c = paid

pub returns-clause-enough : goal.returns-clause-enough
returns-clause-enough c = at_least
