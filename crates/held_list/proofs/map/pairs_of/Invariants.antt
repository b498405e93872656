use Rattle.std.proofs.Common.{◌≡◌, ◌++◌, length}
use Rattle.held_list.proofs.map.pairs_of.Given as goal

abbrev pub invariant-loop-pair : goal.invariant-loop-pair
invariant-loop-pair g l = l.pairs.items ++ l.map.entries ≡ l.fn.map.entries

abbrev pub decreases-loop-pair : goal.decreases-loop-pair
decreases-loop-pair g l = length l.map.entries
