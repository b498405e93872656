use Rattle.std.proofs.Common.{length, arith}
use Rattle.least_needs.proofs.Bounds.{below_at}
use Rattle.least_needs.proofs.distances.reach_all.Goals as goal

pub reach-requires : goal.reach-requires
reach-requires c = let below = below_at (length c.args.distances.now) c.args.nodes.now c.loop-node.node-index c.requires c.loop-node-test.true in omega arith
