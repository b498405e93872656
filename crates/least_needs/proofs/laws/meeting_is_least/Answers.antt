use Rattle.least_needs.proofs.RankLaws.{meeting_is_least}
use Rattle.least_needs.proofs.laws.meeting_is_least.Goals as goal

pub returns : goal.returns
returns c = meeting_is_least
