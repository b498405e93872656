use Rattle.sierra_text.proofs.Refusing.{same_layout}
use Rattle.sierra_text.proofs.laws.one_layout.Goals as goal

pub returns : goal.returns
returns c = same_layout
