use Rattle.std.proofs.Common.{◌≡◌, map, take}
use Rattle.casm_word.specs.Expressions.{lowered}
use Rattle.ap_refs.proofs.moves.lower_cells.Given as goal

abbrev pub invariant-loop-cell : goal.invariant-loop-cell
invariant-loop-cell l = l.made.items ≡ map (lowered l.by) (take l.cell-index l.cells)
