use Rattle.linear_check.proofs.Bounds.{in_table}
use Rattle.linear_check.proofs.laws.types_in_table.Goals as goal

pub returns : goal.returns
returns c = in_table
