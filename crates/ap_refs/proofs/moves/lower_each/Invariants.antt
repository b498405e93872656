use Rattle.std.proofs.Common.{◌≡◌, take}
use Rattle.ap_refs.specs.Moves.{lowered_all}
use Rattle.ap_refs.proofs.moves.lower_each.Given as goal

abbrev pub invariant-loop-pair : goal.invariant-loop-pair
invariant-loop-pair l = l.pairs.items ≡ lowered_all l.by (take l.pair-index l.held)
