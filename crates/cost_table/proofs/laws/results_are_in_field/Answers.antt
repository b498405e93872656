use Rattle.cost_table.proofs.Numbers.{results_are_in_field}
use Rattle.cost_table.proofs.laws.results_are_in_field.Goals as goal

pub returns : goal.returns
returns c = results_are_in_field
