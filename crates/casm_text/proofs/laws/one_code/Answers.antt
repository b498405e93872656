use Rattle.casm_text.proofs.Refusing.{one_code}
use Rattle.casm_text.proofs.laws.one_code.Goals as goal

pub returns : goal.returns
returns c = one_code
