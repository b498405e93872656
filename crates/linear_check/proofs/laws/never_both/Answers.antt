use Rattle.linear_check.proofs.Deciding.{never_both}
use Rattle.linear_check.proofs.laws.never_both.Goals as goal

pub returns : goal.returns
returns c = never_both
