use Rattle.lower_kit.proofs.Named.{terms_read}
use Rattle.lower_kit.proofs.laws.terms_are_read.Goals as goal

pub returns : goal.returns
returns c m a fp d args ts few close = terms_read m a fp d few args close ts
