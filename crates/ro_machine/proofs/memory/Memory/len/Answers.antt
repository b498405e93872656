use Rattle.std.proofs.Common.{sym, ap, ◌∙◌}
use Rattle.std.specs.FinMap.{len}
use Rattle.ro_machine.proofs.Order.{in_field, len-map_of}
use Rattle.ro_machine.proofs.memory.Memory.len.Goals as goal

pub returns-clause-count : goal.returns-clause-count
returns-clause-count c = c.self.invariant.counted ∙ sym (len-map_of _ c.self.invariant.apart) ∙ ap len c.self.view_is

pub returns-clause-in_field : goal.returns-clause-in_field
returns-clause-in_field c = in_field _ c.self.invariant.apart _ c.self.view_is
