use Rattle.std.proofs.Common.{length, subst, rules, arith}
use Rattle.least_needs.specs.Nearest.{IsBest}
use Rattle.least_needs.proofs.Bounds.{below_at}
use Rattle.least_needs.proofs.NearestLaws.{nearest_none, nearest_some}
use Rattle.least_needs.proofs.cycle.nearest.Goals as goal

pub offset_bounds-distances-node : goal.offset_bounds-distances-node
offset_bounds-distances-node c =
    let below = below_at (length c.args.distances.now) c.args.nodes.now c.loop-node.node-index c.requires c.loop-node-test.true in
    search rules

pub bounds : goal.bounds
bounds c = below_at (length c.args.distances.now) c.args.nodes.now c.loop-node.node-index c.requires c.loop-node-test.true

pub returns-in_err-best : goal.returns-in_err-best
returns-in_err-best c = rw c.from_residual.ensures (nearest_none c.args.nodes.now c.args.distances.now c.loop-node.node-index (omega arith) (subst (λ b. IsBest c.args.nodes.now c.args.distances.now c.loop-node.node-index b) c.in_err-best.was c.loop-node.invariant))

pub returns : goal.returns
returns c = nearest_some c.args.nodes.now c.args.distances.now c.loop-node.node-index c.in_ok-best.field-0 (omega arith) (omega arith) (subst (λ b. IsBest c.args.nodes.now c.args.distances.now c.loop-node.node-index b) c.in_ok-best.was c.loop-node.invariant)
