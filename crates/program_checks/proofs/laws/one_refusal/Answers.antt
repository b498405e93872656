use Rattle.program_checks.proofs.Checks.{one_refusal}
use Rattle.program_checks.proofs.laws.one_refusal.Goals as goal

pub returns : goal.returns
returns c = one_refusal
