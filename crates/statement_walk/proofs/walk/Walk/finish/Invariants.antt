use Rattle.std.proofs.Common.{◌≡◌, ◌++◌, length}
use Rattle.std.specs.Vec.Iter.{into_iter_items}
use Rattle.statement_walk.proofs.Storing.{missing_from, seen_ones}
use Rattle.statement_walk.proofs.walk.Walk.finish.Given as goal

abbrev pub invariant-loop-given : goal.invariant-loop-given
invariant-loop-given g l =
    (missing_from 0 (into_iter_items l.initial.given-iterator) ≡ missing_from (length l.list.items) (into_iter_items l.given-iterator))
    × (seen_ones (into_iter_items l.initial.given-iterator) ≡ l.list.items ++ seen_ones (into_iter_items l.given-iterator))
