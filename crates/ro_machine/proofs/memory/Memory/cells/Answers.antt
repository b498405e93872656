use Rattle.std.proofs.Common.{sym, ap, ◌∙◌}
use Rattle.std.specs.FinMap.{entries}
use Rattle.ro_machine.specs.Stretches.{cells_of}
use Rattle.ro_machine.proofs.Order.{in_field, entries-map_of}
use Rattle.ro_machine.proofs.memory.Memory.cells.Goals as goal

pub returns-clause-cells : goal.returns-clause-cells
returns-clause-cells c = c.listed_cells.ensures ∙ ap cells_of c.deref.ensures.value ∙ sym (entries-map_of _ c.self.invariant.apart) ∙ ap entries c.self.view_is

pub returns-clause-in_field : goal.returns-clause-in_field
returns-clause-in_field c = in_field _ c.self.invariant.apart _ c.self.view_is
