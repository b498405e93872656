use Rattle.sierra_meaning.proofs.MainLaws.{main_balanced}
use Rattle.sierra_meaning.proofs.laws.builtins_are_given_back.Goals as goal

pub returns : goal.returns
returns c = λ a ok. main_balanced a ok (c.builtins_balance.ensures.functions a.program a.types a.sigs a.envs a.main a.plan ok.types ok.signatures ok.typed ok.plan)
