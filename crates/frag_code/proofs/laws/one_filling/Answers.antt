use Rattle.frag_code.proofs.Fillings.{gives_once}
use Rattle.frag_code.proofs.laws.one_filling.Goals as goal

pub returns : goal.returns
returns c = gives_once
