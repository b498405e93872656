use Rattle.std.proofs.Common.{◌≡◌, ℕ, ◌+◌, ◌*◌, ◌<◌, None, length, replicate, sym, ap, subst, ◌∙◌, rules, arith}
use Rattle.std.proofs.lemmas.List.{with_items_is, length-map}
use Rattle.std.proofs.Common.{Vec, Global}
use Rattle.least_needs.specs.Terms.{AreBelow}
use Rattle.least_needs.specs.Distances.{AreInside, found, lists_of, unreached}
use Rattle.least_needs.proofs.SourceLaws.{sources, sources_inside, length-sources}
use Rattle.least_needs.proofs.Layers.{AreLayers, begins, proceeds, layer_below, all_found}
use Rattle.least_needs.proofs.distances.distances_to.Goals as goal

pub loop-alloc-init : goal.loop-alloc-init
loop-alloc-init c =
    let same = with_items_is c.in_ok-distances.distances c.reach.new.distances (omega arith) in
    let all : c.in_ok-distances.distances.items ≡ replicate c.len.result None = search rules in
    let blank : c.deref_mut.result.now ≡ replicate (length c.args.graph.now) None = c.deref_mut.ensures.value ∙ all ∙ ap (λ n. replicate n None) c.len.ensures in
    subst (λ ds. AreLayers c.args.graph.now c.args.start 0 ds c.reach.new.next.items) (sym same) (begins c.args.graph.now c.args.start c.reach.new.distances c.deref_mut.result.now c.reach.new.next.items c.new-layer.result.items c.requires.start c.in_ok-reach.ensures blank c.new-layer.ensures.items)

pub next_layer-requires-clause-layer : goal.next_layer-requires-clause-layer
next_layer-requires-clause-layer c =
    let g = c.args.graph.now in
    let lists : lists_of c.deref.result.now ≡ sources g = ap lists_of c.deref.ensures.value ∙ c.in_ok-sources.ensures in
    let size : length g ≡ length c.deref.result.now = sym (length-sources g) ∙ ap length (sym lists) ∙ length-map c.deref.result.now (λ (v : Vec ℕ Global). v.items) in
    let below = layer_below g c.args.start c.loop-alloc.edges (found c.loop-alloc.distances.items c.loop-alloc.layer.items) c.loop-alloc.invariant.are in
    subst (λ us. AreBelow (length c.deref.result.now) us) (sym c.deref-in-loop-alloc.ensures.value) (subst (λ n. AreBelow n c.loop-alloc.layer.items) size below)

pub next_layer-requires-clause-sources : goal.next_layer-requires-clause-sources
next_layer-requires-clause-sources c =
    let g = c.args.graph.now in
    let lists : lists_of c.deref.result.now ≡ sources g = ap lists_of c.deref.ensures.value ∙ c.in_ok-sources.ensures in
    let size : length g ≡ length c.deref_mut-in-loop-alloc.result.now = sym c.loop-alloc.invariant.are.size ∙ ap length (sym c.deref_mut-in-loop-alloc.ensures.value) in
    subst (λ ls. AreInside (length c.deref_mut-in-loop-alloc.result.now) ls) (sym lists) (subst (λ n. AreInside n (sources g)) size (sources_inside g c.requires.closed))

pub loop-alloc-smaller : goal.loop-alloc-smaller
loop-alloc-smaller c =
    let g = c.args.graph.now in
    let lists : lists_of c.deref.result.now ≡ sources g = ap lists_of c.deref.ensures.value ∙ c.in_ok-sources.ensures in
    let some : 0 < length c.loop-alloc.layer.items = search rules in
    let same = with_items_is c.loop-alloc.distances c.next_layer.new.distances (omega arith) in
    let step = proceeds g c.args.start c.loop-alloc.edges (lists_of c.deref.result.now) c.loop-alloc.distances.items c.deref_mut-in-loop-alloc.result.now c.next_layer.new.distances c.loop-alloc.layer.items c.deref-in-loop-alloc.result.now c.in_ok-layer.layer.items c.requires.closed c.loop-alloc.invariant some c.in_ok-layer.ensures lists c.deref_mut-in-loop-alloc.ensures.value c.deref-in-loop-alloc.ensures.value in
    subst (λ ds. 2 * unreached ds + length c.in_ok-layer.layer.items < 2 * unreached c.loop-alloc.distances.items + length c.loop-alloc.layer.items) (sym same) step.1

pub loop-alloc-preserved : goal.loop-alloc-preserved
loop-alloc-preserved c =
    let g = c.args.graph.now in
    let lists : lists_of c.deref.result.now ≡ sources g = ap lists_of c.deref.ensures.value ∙ c.in_ok-sources.ensures in
    let some : 0 < length c.loop-alloc.layer.items = search rules in
    let same = with_items_is c.loop-alloc.distances c.next_layer.new.distances (omega arith) in
    let step = proceeds g c.args.start c.loop-alloc.edges (lists_of c.deref.result.now) c.loop-alloc.distances.items c.deref_mut-in-loop-alloc.result.now c.next_layer.new.distances c.loop-alloc.layer.items c.deref-in-loop-alloc.result.now c.in_ok-layer.layer.items c.requires.closed c.loop-alloc.invariant some c.in_ok-layer.ensures lists c.deref_mut-in-loop-alloc.ensures.value c.deref-in-loop-alloc.ensures.value in
    subst (λ ds. AreLayers g c.args.start (c.loop-alloc.edges + 1) ds c.in_ok-layer.layer.items) (sym same) step.0

pub returns : goal.returns
returns c =
    let none : length c.loop-alloc.layer.items ≡ 0 = search rules in
    all_found c.args.graph.now c.args.start c.loop-alloc.edges (found c.loop-alloc.distances.items c.loop-alloc.layer.items) c.loop-alloc.invariant.are none
