use Rattle.sierra_meaning.proofs.MainLaws.{main_ends}
use Rattle.sierra_meaning.proofs.laws.main_ends.Goals as goal

pub returns : goal.returns
returns c = λ a ok. main_ends a ok (c.plan_pays.ensures a.program a.types a.sigs a.envs a.main a.plan ok.types ok.signatures ok.typed ok.plan)
