use Rattle.ro_machine.proofs.Order.{in_field}
use Rattle.ro_machine.proofs.memory.Memory.get.Goals as goal

pub returns-clause-in_field : goal.returns-clause-in_field
returns-clause-in_field c = in_field _ c.self.invariant.apart _ c.self.view_is
