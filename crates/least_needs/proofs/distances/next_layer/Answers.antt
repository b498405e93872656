use Rattle.std.proofs.Common.{◌≡◌, ◌+◌, length, get_or, drop, sym, ap, subst, ◌∙◌, rules}
use Rattle.std.proofs.lemmas.List.{at_drop_more}
use Rattle.graph_cycles.specs.Graph.{targets_of}
use Rattle.least_needs.specs.Terms.{AreBelow}
use Rattle.least_needs.specs.Distances.{found, all_reached, layer_reached, lists_of}
use Rattle.least_needs.proofs.Bounds.{below_at, inside_at}
use Rattle.least_needs.proofs.SourceLaws.{list_at}
use Rattle.least_needs.proofs.distances.next_layer.Goals as goal

pub offset_bounds-sources-node : goal.offset_bounds-sources-node
offset_bounds-sources-node c =
    let below = below_at (length c.args.sources.now) c.args.layer.now c.loop-node.node-index c.requires.layer c.loop-node-test.true in
    search rules

pub bounds-sources-node : goal.bounds-sources-node
bounds-sources-node c = below_at (length c.args.sources.now) c.args.layer.now c.loop-node.node-index c.requires.layer c.loop-node-test.true

pub reach_all-requires : goal.reach_all-requires
reach_all-requires c =
    let node = get_or c.args.layer.now c.loop-node.node-index 0 in
    let below = below_at (length c.args.sources.now) c.args.layer.now c.loop-node.node-index c.requires.layer c.loop-node-test.true in
    let row : targets_of (lists_of c.args.sources.now) node ≡ c.deref.result.now = list_at c.args.sources.now node c.index-sources-node.result below c.index-sources-node.is ∙ sym c.deref.ensures.value in
    let inside = inside_at (length c.args.distances.now) (lists_of c.args.sources.now) node c.requires.sources in
    subst (λ xs. AreBelow (length c.loop-node.distances) xs) row (subst (λ n. AreBelow n (targets_of (lists_of c.args.sources.now) node)) (sym c.loop-node.auto.distances) inside)

pub loop-node-preserved : goal.loop-node-preserved
loop-node-preserved c =
    let lists = lists_of c.args.sources.now in
    let i = c.loop-node.node-index in
    let node = get_or c.args.layer.now i 0 in
    let so_far = found c.loop-node.distances c.loop-node.next.items in
    let below = below_at (length c.args.sources.now) c.args.layer.now i c.requires.layer c.loop-node-test.true in
    let row : targets_of lists node ≡ c.deref.result.now = list_at c.args.sources.now node c.index-sources-node.result below c.index-sources-node.is ∙ sym c.deref.ensures.value in
    let step : found c.reach_all.new.distances c.reach_all.new.next.items ≡ all_reached c.args.edges so_far (targets_of lists node) = c.in_ok-reach_all.ensures ∙ ap (λ xs. all_reached c.args.edges so_far xs) (sym row) in
    ap (λ x. layer_reached lists c.args.edges x (drop (i + 1) c.args.layer.now)) step
    ∙ sym (at_drop_more (λ us. layer_reached lists c.args.edges so_far us) c.args.layer.now i 0 c.loop-node-test.true)
    ∙ c.loop-node.invariant
