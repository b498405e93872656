use Rattle.typed_values.proofs.OneFault as proved
use Rattle.typed_values.proofs.laws.one_fault.Goals as goal

pub returns-clause-one : goal.returns-clause-one
returns-clause-one c = proved.one_fault

pub returns-clause-not_both : goal.returns-clause-not_both
returns-clause-not_both c = proved.not_both

pub returns-clause-of_number : goal.returns-clause-of_number
returns-clause-of_number c = proved.of_number
