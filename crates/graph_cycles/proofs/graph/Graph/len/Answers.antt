use Rattle.std.proofs.Common.{length, ap, arith}
use Rattle.graph_cycles.proofs.RowLaws.{length-rows}
use Rattle.graph_cycles.proofs.graph.Graph.len.Goals as goal

pub returns : goal.returns
returns c = omega (arith, length-rows 0 c.self.inside.ends.items c.self.inside.targets.items, ap length c.self.view_is)
