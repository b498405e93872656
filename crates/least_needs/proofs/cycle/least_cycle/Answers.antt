use Rattle.std.proofs.Common.{sym, subst}
use Rattle.least_needs.specs.Distances.{AreDistances}
use Rattle.least_needs.proofs.Going.{IsPath, goes_on, comes_nearer, path_more}
use Rattle.least_needs.proofs.cycle.least_cycle.Goals as goal

pub next_node-next-requires-in-loop-next-clause-ways :
    goal.next_node-next-requires-in-loop-next-clause-ways
next_node-next-requires-in-loop-next-clause-ways c =
    let are = subst (λ ds. AreDistances c.args.graph.now c.args.start ds) (sym c.deref-in-loop-next.ensures.value) c.in_ok-distances.ensures in
    let way = goes_on c.args.graph.now c.args.start _ c.loop-next.next c.loop-next.invariant.tail c.loop-next-test.true in
    (c.args.start, way.0, are, way.1)

pub loop-next-smaller : goal.loop-next-smaller
loop-next-smaller c =
    let are = subst (λ ds. AreDistances c.args.graph.now c.args.start ds) (sym c.deref-in-loop-next.ensures.value) c.in_ok-distances.ensures in
    let next = c.next_node-next-in-loop-next.ensures c.args.start are in
    comes_nearer c.args.graph.now c.args.start c.loop-next.next c.next_node-next-in-loop-next.result c.loop-next.invariant.tail.edges c.in_ok-distances.distances.items c.in_ok-distances.ensures c.loop-next.invariant.tail.way c.loop-next-test.true next

pub loop-next-preserved : goal.loop-next-preserved
loop-next-preserved c =
    let are = subst (λ ds. AreDistances c.args.graph.now c.args.start ds) (sym c.deref-in-loop-next.ensures.value) c.in_ok-distances.ensures in
    let next = c.next_node-next-in-loop-next.ensures c.args.start are in
    subst (λ ns. IsPath c.args.graph.now c.args.start ns c.next_node-next-in-loop-next.result) (sym c.in_ok-push-2.ensures.items) (path_more c.args.graph.now c.args.start c.loop-next.nodes.items c.loop-next.next c.next_node-next-in-loop-next.result c.loop-next.invariant c.loop-next-test.true next)
