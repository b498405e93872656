use Rattle.first_form.proofs.VerdictLaws.{some_verdict, one_verdict}
use Rattle.first_form.proofs.laws.accepted_runs_have_verdicts.Goals as goal

pub returns-clause-some : goal.returns-clause-some
returns-clause-some c = some_verdict

pub returns-clause-once : goal.returns-clause-once
returns-clause-once c = one_verdict
