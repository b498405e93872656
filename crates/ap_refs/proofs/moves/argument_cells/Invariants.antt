use Rattle.std.proofs.Common.{◌≡◌, map}
use Rattle.std.specs.List.{range_with_len}
use Rattle.ap_refs.specs.Moves.{argument_cell}
use Rattle.ap_refs.proofs.moves.argument_cells.Given as goal

abbrev pub invariant-loop-k : goal.invariant-loop-k
invariant-loop-k l = l.cells.items ≡ map (argument_cell l.count) (range_with_len 0 l.k)
