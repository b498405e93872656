use Rattle.program_checks.proofs.Checks.{passes_or_refused, never_both}
use Rattle.program_checks.proofs.laws.passes_or_refused.Goals as goal

pub returns-clause-either : goal.returns-clause-either
returns-clause-either c = passes_or_refused

pub returns-clause-not_both : goal.returns-clause-not_both
returns-clause-not_both c = never_both
