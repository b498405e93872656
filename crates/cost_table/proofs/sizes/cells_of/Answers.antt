use Rattle.std.proofs.Common.{arith}
use Rattle.cost_table.proofs.Prefixes.{prefix_cells}
use Rattle.cost_table.proofs.sizes.cells_of.Goals as goal

pub returns-then-cells-ge-TOO_MANY-clause-many : goal.returns-then-cells-ge-TOO_MANY-clause-many
returns-then-cells-ge-TOO_MANY-clause-many c =
    omega (arith, c.if-cells-ge-TOO_MANY.true, c.loop-t.invariant, prefix_cells c.args.types.now c.loop-t.t-index c.args.list.now)
