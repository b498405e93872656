use Rattle.sierra_text.proofs.Refusing.{one_refusal}
use Rattle.sierra_text.proofs.laws.one_refusal.Goals as goal

pub returns : goal.returns
returns c = one_refusal
