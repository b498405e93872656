use Rattle.sierra_meaning.proofs.MeaningLaws.{gas_told, counter_left}
use Rattle.sierra_meaning.proofs.meanings.gas_is_told.Goals as goal

pub returns-clause-all : goal.returns-clause-all
returns-clause-all c = λ a ok i fits n outcome means. (gas_told a ok (c.plan_pays.ensures a.program a.types a.sigs a.envs a.main a.plan ok.types ok.signatures ok.typed ok.plan) i fits n outcome means).0

pub returns-clause-used : goal.returns-clause-used
returns-clause-used c = λ a ok i fits n outcome means. (gas_told a ok (c.plan_pays.ensures a.program a.types a.sigs a.envs a.main a.plan ok.types ok.signatures ok.typed ok.plan) i fits n outcome means).1

pub returns-clause-without : goal.returns-clause-without
returns-clause-without c = λ a ok. counter_left a ok (c.plan_pays.ensures a.program a.types a.sigs a.envs a.main a.plan ok.types ok.signatures ok.typed ok.plan)
