use Rattle.std.proofs.Common.{◌≡◌, [], ◌∷◌, length}
use Rattle.sierra_text.specs.Reading.{comma_at, behind_items_at}
use Rattle.sierra_text.proofs.lists.items_behind.Given as goal

abbrev pub invariant-loop-alloc : goal.invariant-loop-alloc
invariant-loop-alloc g l =
    behind_items_at comma_at l.close g.T.Item.reader l.items l.rest.now ≡ behind_items_at comma_at l.close g.T.Item.reader (l.fn.first ∷ []) l.fn.rest.now

abbrev pub decreases-loop-alloc : goal.decreases-loop-alloc
decreases-loop-alloc g l = length l.rest.now
