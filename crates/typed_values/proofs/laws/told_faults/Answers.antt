use Rattle.typed_values.proofs.RangeFaults as proved
use Rattle.typed_values.proofs.WholeFaults as whole
use Rattle.typed_values.proofs.laws.told_faults.Goals as goal

pub returns-clause-whole : goal.returns-clause-whole
returns-clause-whole c = whole.told_if_it_is

pub returns-clause-or_array : goal.returns-clause-or_array
returns-clause-or_array c = proved.told_fault
