use Rattle.first_form.proofs.HonestLaws.{accepted, shown, is_run, is_short, needed}
use Rattle.first_form.proofs.laws.honest_runs_are_accepted.Goals as goal

pub returns-clause-accepted : goal.returns-clause-accepted
returns-clause-accepted c = accepted

pub returns-clause-shown : goal.returns-clause-shown
returns-clause-shown c = shown

pub returns-clause-spelled : goal.returns-clause-spelled
returns-clause-spelled c = is_run

pub returns-clause-short : goal.returns-clause-short
returns-clause-short c = is_short

pub returns-clause-needed : goal.returns-clause-needed
returns-clause-needed c = needed
