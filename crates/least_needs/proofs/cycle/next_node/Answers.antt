use Rattle.std.proofs.Common.{length, sym, subst}
use Rattle.least_needs.specs.Terms.{AreBelow}
use Rattle.graph_cycles.specs.Graph.{targets_of}
use Rattle.least_needs.proofs.Bounds.{below_targets}
use Rattle.least_needs.proofs.cycle.next_node.Goals as goal

pub nearest-requires : goal.nearest-requires
nearest-requires c =
    let below = below_targets c.args.graph.now c.args.node c.requires.closed in
    let size = c.requires.ways.2.size in
    subst (λ xs. AreBelow (length c.args.distances.now) xs) (sym c.targets.ensures) (subst (λ n. AreBelow n (targets_of c.args.graph.now c.args.node)) (sym size) below)
