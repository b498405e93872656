use Rattle.std.proofs.Common.{length, ap, arith}
use Rattle.graph_cycles.proofs.RowLaws.{length-rows}
use Rattle.graph_cycles.proofs.graph.Graph.targets.Goals as goal

pub row-requires-clause-node : goal.row-requires-clause-node
row-requires-clause-node c =
    omega (arith, ap length c.deref-2.ensures.value, length-rows 0 c.self.inside.ends.items c.self.inside.targets.items, ap length c.self.view_is, c.requires)
