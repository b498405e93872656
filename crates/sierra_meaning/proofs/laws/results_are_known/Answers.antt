use Rattle.sierra_meaning.proofs.MainLaws.{results_known, statements_within, charges_paid}
use Rattle.sierra_meaning.proofs.laws.results_are_known.Goals as goal

pub returns-clause-results : goal.returns-clause-results
returns-clause-results c = λ a ok. results_known a ok (c.plan_pays.ensures a.program a.types a.sigs a.envs a.main a.plan ok.types ok.signatures ok.typed ok.plan)

pub returns-clause-statements : goal.returns-clause-statements
returns-clause-statements c = λ a ok. statements_within a ok (c.plan_pays.ensures a.program a.types a.sigs a.envs a.main a.plan ok.types ok.signatures ok.typed ok.plan)

pub returns-clause-charges : goal.returns-clause-charges
returns-clause-charges c = λ a ok. charges_paid a ok (c.plan_pays.ensures a.program a.types a.sigs a.envs a.main a.plan ok.types ok.signatures ok.typed ok.plan)
