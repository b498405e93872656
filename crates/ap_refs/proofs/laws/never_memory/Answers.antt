use Rattle.ap_refs.proofs.Deciding.{never_memory}
use Rattle.ap_refs.proofs.laws.never_memory.Goals as goal

pub returns : goal.returns
returns c = never_memory
