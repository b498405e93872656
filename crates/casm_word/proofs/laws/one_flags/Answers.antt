use Rattle.casm_word.proofs.WordLaws.{one_flags}
use Rattle.casm_word.proofs.laws.one_flags.Goals as goal

pub returns : goal.returns
returns c = one_flags
