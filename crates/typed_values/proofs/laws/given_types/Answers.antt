use Rattle.typed_values.proofs.GivenTypes.{given_type}
use Rattle.typed_values.proofs.laws.given_types.Goals as goal

pub returns : goal.returns
returns c = given_type
