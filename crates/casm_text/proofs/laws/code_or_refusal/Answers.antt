use Rattle.casm_text.proofs.Refusing.{code_or_refusal, never_both}
use Rattle.casm_text.proofs.laws.code_or_refusal.Goals as goal

pub returns-clause-either : goal.returns-clause-either
returns-clause-either c = code_or_refusal

pub returns-clause-not_both : goal.returns-clause-not_both
returns-clause-not_both c = never_both
