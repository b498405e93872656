use Rattle.sierra_meaning.proofs.MainLaws.{main_once}
use Rattle.sierra_meaning.proofs.laws.one_run.Goals as goal

pub returns : goal.returns
returns c = main_once
