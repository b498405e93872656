use Rattle.typed_values.proofs.InputFaults as proved
use Rattle.typed_values.proofs.LongFaults as arrays
use Rattle.typed_values.proofs.RangeFaults as ranges
use Rattle.typed_values.proofs.WholeFaults as whole
use Rattle.typed_values.proofs.laws.refused_inputs.Goals as goal

pub returns-clause-syntax : goal.returns-clause-syntax
returns-clause-syntax c = proved.refused_syntax

pub returns-clause-count : goal.returns-clause-count
returns-clause-count c = proved.refused_count

pub returns-clause-gas : goal.returns-clause-gas
returns-clause-gas c = proved.refused_gas

pub returns-clause-number : goal.returns-clause-number
returns-clause-number c = ranges.refused_range

pub returns-clause-range : goal.returns-clause-range
returns-clause-range c = whole.refused_out

pub returns-clause-long : goal.returns-clause-long
returns-clause-long c = arrays.refused_long
