use Rattle.program_checks.proofs.Accepting.{one_accepted}
use Rattle.program_checks.proofs.laws.one_accepted.Goals as goal

pub returns : goal.returns
returns c = one_accepted
