use Rattle.std.proofs.Common.{◌≡◌, length, arith}
use Rattle.std.specs.Vec.Iter.{into_iter_items}
use Rattle.statement_walk.specs.Waits.{has}
use Rattle.statement_walk.proofs.Storing.{missing_here, all_listed, empty_list}
use Rattle.statement_walk.proofs.walk.Walk.finish.Goals as goal

pub returns-in-None-given-clause-missing : goal.returns-in-None-given-clause-missing
returns-in-None-given-clause-missing g c = λ s is.
    (let same : c.len-in-None-given.result ≡ s = cc in
    let counted : length c.loop-given.list.items ≡ s = omega (arith, c.loop-given.list.ok.0) in
    missing_here (has c.self.inside.waiting) c.self.inside.stored.items (into_iter_items c.into_iter-given-iterator.result) (into_iter_items c.loop-given.given-iterator) (into_iter_items c.next.new.self) c.args.self c.loop-given.list.items c.in-Some.given s
    c.self.view_is c.into_iter-given-iterator.ensures.into_iter_gives.0 c.loop-given.invariant.0 c.in-Some.ensures.steps.0 c.in-None-given.is counted)

pub returns-clause-ok : goal.returns-clause-ok
returns-clause-ok g c =
    let none : length (into_iter_items c.loop-given.given-iterator) ≡ 0 = omega (arith, c.in-None.ensures.steps.0, c.loop-given.given-iterator.rest.ok.0) in
    all_listed (has c.self.inside.waiting) c.self.inside.stored.items (into_iter_items c.into_iter-given-iterator.result) (into_iter_items c.loop-given.given-iterator) c.args.self c.loop-given.list.items
    c.self.view_is c.into_iter-given-iterator.ensures.into_iter_gives.0 c.loop-given.invariant (empty_list (into_iter_items c.loop-given.given-iterator) none)
