use Rattle.sierra_meaning.proofs.MeaningLaws.{within_bound}
use Rattle.sierra_meaning.proofs.meanings.meanings_within_bound.Goals as goal

pub returns : goal.returns
returns c = λ a ok. within_bound a ok (c.plan_pays.ensures a.program a.types a.sigs a.envs a.main a.plan ok.types ok.signatures ok.typed ok.plan)
