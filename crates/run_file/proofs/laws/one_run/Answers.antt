use Rattle.run_file.proofs.Runs.{one_run}
use Rattle.run_file.proofs.laws.one_run.Goals as goal

pub returns : goal.returns
returns c = one_run
