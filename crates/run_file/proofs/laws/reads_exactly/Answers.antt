use Rattle.run_file.proofs.Runs.{reads_exactly}
use Rattle.run_file.proofs.laws.reads_exactly.Goals as goal

pub returns : goal.returns
returns c = reads_exactly
