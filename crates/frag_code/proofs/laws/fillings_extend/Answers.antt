use Rattle.frag_code.proofs.Fillings.{gives_extends}
use Rattle.frag_code.proofs.laws.fillings_extend.Goals as goal

pub returns : goal.returns
returns c = gives_extends
