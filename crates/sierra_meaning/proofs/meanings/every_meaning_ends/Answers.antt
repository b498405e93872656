use Rattle.sierra_meaning.proofs.MeaningLaws.{meaning_ends}
use Rattle.sierra_meaning.proofs.meanings.every_meaning_ends.Goals as goal

pub returns : goal.returns
returns c = λ a ok. meaning_ends a ok (c.plan_pays.ensures a.program a.types a.sigs a.envs a.main a.plan ok.types ok.signatures ok.typed ok.plan)
