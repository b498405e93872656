use Rattle.std.proofs.Common.{arith}
use Rattle.ro_machine.proofs.Order.{cells_fit}
use Rattle.ro_machine.proofs.memory.Memory.insert_new.Goals as goal

pub overflow_add-self : goal.overflow_add-self
overflow_add-self c = omega (arith, cells_fit _ 0 c.self.invariant.apart, c.self.invariant.counted)
