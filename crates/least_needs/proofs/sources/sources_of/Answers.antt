use Rattle.std.proofs.Common.{◌≡◌, ℕ, length, sym, ap, subst, ◌∙◌}
use Rattle.std.proofs.Common.{Vec, Global}
use Rattle.std.proofs.lemmas.List.{length-map}
use Rattle.graph_cycles.specs.Graph.{targets_of}
use Rattle.least_needs.specs.Terms.{AreBelow}
use Rattle.least_needs.proofs.Bounds.{below_targets}
use Rattle.least_needs.proofs.sources.sources_of.Goals as goal

pub add_source-requires : goal.add_source-requires
add_source-requires c =
    let below = below_targets c.args.graph.now c.loop-source.source c.requires in
    let size : length c.args.graph.now ≡ length c.deref_mut.result.now = sym c.loop-source.invariant.size ∙ length-map c.loop-source.lists.items (λ (v : Vec ℕ Global). v.items) ∙ ap length (sym c.deref_mut.ensures.value) in
    subst (λ xs. AreBelow (length c.deref_mut.result.now) xs) (sym c.targets.ensures) (subst (λ n. AreBelow n (targets_of c.args.graph.now c.loop-source.source)) size below)
