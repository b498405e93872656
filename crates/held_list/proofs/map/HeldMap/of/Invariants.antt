use Rattle.std.proofs.Common.{◌≡◌, ◌++◌}
use Rattle.held_list.proofs.map.HeldMap.of.Given as goal

abbrev pub invariant-loop-pair : goal.invariant-loop-pair
invariant-loop-pair g l = l.map.entries ++ l.pair-iterator.rest.items ≡ l.fn.held
