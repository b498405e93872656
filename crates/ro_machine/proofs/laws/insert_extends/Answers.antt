use Rattle.ro_machine.proofs.ExtendLaws.{insert_extends}
use Rattle.ro_machine.proofs.laws.insert_extends.Goals as goal

pub returns : goal.returns
returns c = insert_extends
