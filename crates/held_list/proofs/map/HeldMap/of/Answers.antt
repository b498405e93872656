use Rattle.std.proofs.Common.{sym, ap, ◌∙◌, ◌++◌, ◌∷◌, [], subst, ◌≡◌}
use Rattle.std.proofs.lemmas.List.{append_assoc}
use Rattle.held_list.specs.Held.{IsRising}
use Rattle.held_list.proofs.Maps.{insert_last}
use Rattle.held_list.proofs.map.HeldMap.of.Goals as goal

pub loop-pair-preserved : goal.loop-pair-preserved
loop-pair-preserved g c =
    let left : c.loop-pair.pair-iterator.rest.items ≡ c.in-Some.pair ∷ c.next.new.self.rest.items = c.in-Some.ensures.steps.0 in
    let all : c.loop-pair.map.entries ++ c.in-Some.pair ∷ c.next.new.self.rest.items ≡ c.args.held = ap (λ r. c.loop-pair.map.entries ++ r) (sym left) ∙ c.loop-pair.invariant in
    let last = insert_last c.loop-pair.map.entries c.next.new.self.rest.items c.in-Some.pair 0 (subst IsRising (sym all) c.into_pairs-pair-items.ensures.rising) in
    ap (λ m. m ++ c.next.new.self.rest.items) (c.in_ok-put.ensures.ok ∙ last) ∙ append_assoc c.loop-pair.map.entries (c.in-Some.pair ∷ []) c.next.new.self.rest.items ∙ all
