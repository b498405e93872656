use Rattle.linear_check.proofs.Faults.{never_memory}
use Rattle.linear_check.proofs.laws.never_memory.Goals as goal

pub returns : goal.returns
returns c = never_memory
