use Rattle.std.proofs.Common.{Vec, Global}
use Rattle.std.proofs.Common.{◌≡◌, ℕ, ◌+◌, ◌<◌, [], ◌∷◌, ◌++◌, length, get_or, drop, sym, ap, ◌∙◌, rules, arith}
use Rattle.std.proofs.lemmas.List.{at_drop_more}
use Rattle.least_needs.specs.Distances.{lists_of, with_source}
use Rattle.least_needs.proofs.Bounds.{below_at}
use Rattle.least_needs.proofs.SourceLaws.{list_pushed}
use Rattle.least_needs.proofs.sources.add_source.Goals as goal

pub offset_bounds-lists-target : goal.offset_bounds-lists-target
offset_bounds-lists-target c =
    let below = below_at (length c.args.lists.now) c.args.targets.now c.loop-target.target-index c.requires c.loop-target-test.true in
    search rules

pub bounds-lists-target : goal.bounds-lists-target
bounds-lists-target c =
    let below = below_at (length c.args.lists.now) c.args.targets.now c.loop-target.target-index c.requires c.loop-target-test.true in
    omega arith

pub loop-target-preserved : goal.loop-target-preserved
loop-target-preserved c =
    let i = c.loop-target.target-index in
    let target = get_or c.args.targets.now i 0 in
    let below : target < length c.args.lists.now = below_at (length c.args.lists.now) c.args.targets.now i c.requires c.loop-target-test.true in
    let within : target < length c.loop-target.lists = omega arith in
    let grown : c.push.new.self.items ≡ c.index-lists-target.result.items ++ c.args.source ∷ [] = c.in_ok-push.ensures.items ∙ ap (λ (v : Vec ℕ Global). v.items ++ c.args.source ∷ []) (sym c.index-lists-target.is) in
    let step = list_pushed c.loop-target.lists target c.args.source c.index-lists-target.result c.push.new.self within c.index-lists-target.is grown in
    ap (λ x. with_source x c.args.source (drop (i + 1) c.args.targets.now)) step
    ∙ sym (at_drop_more (λ ts. with_source (lists_of c.loop-target.lists) c.args.source ts) c.args.targets.now i 0 c.loop-target-test.true)
    ∙ c.loop-target.invariant
