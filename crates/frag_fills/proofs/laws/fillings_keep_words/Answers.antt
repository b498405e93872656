use Rattle.frag_fills.proofs.Fillings.{filling_extends}
use Rattle.frag_fills.proofs.laws.fillings_keep_words.Goals as goal

pub returns : goal.returns
returns c = filling_extends
