use Rattle.least_needs.proofs.RankLaws.{falls}
use Rattle.least_needs.proofs.laws.rank_falls.Goals as goal

pub returns : goal.returns
returns c = falls
