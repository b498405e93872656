use Rattle.std.proofs.Common.{◌≡◌, [], ◌∷◌, length}
use Rattle.text_reading.specs.Reading.{done}
use Rattle.sierra_text.specs.Text.{standard}
use Rattle.sierra_text.specs.Reading.{behind_items_at, branch_at}
use Rattle.sierra_text.proofs.branches.branches_behind.Given as goal

abbrev pub invariant-loop-alloc : goal.invariant-loop-alloc
invariant-loop-alloc l = behind_items_at (done tt) 125 (branch_at standard) l.branches l.rest.now ≡ behind_items_at (done tt) 125 (branch_at standard) (l.fn.first ∷ []) l.fn.rest.now

abbrev pub decreases-loop-alloc : goal.decreases-loop-alloc
decreases-loop-alloc l = length l.rest.now
