use Rattle.byte_reading.proofs.DecimalLaws.{one_leading_number}
use Rattle.byte_reading.proofs.laws.one_leading_number.Goals as goal

pub returns : goal.returns
returns c = one_leading_number
