use Rattle.byte_reading.proofs.DecimalLaws.{decimal_text_injective}
use Rattle.byte_reading.proofs.laws.one_text.Goals as goal

pub returns : goal.returns
returns c = decimal_text_injective
