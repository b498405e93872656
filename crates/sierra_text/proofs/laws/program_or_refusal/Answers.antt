use Rattle.sierra_text.proofs.Refusing.{program_or_refusal, never_both}
use Rattle.sierra_text.proofs.laws.program_or_refusal.Goals as goal

pub returns-clause-either : goal.returns-clause-either
returns-clause-either c = program_or_refusal

pub returns-clause-not_both : goal.returns-clause-not_both
returns-clause-not_both c = never_both
