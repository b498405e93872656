use Rattle.std.proofs.Common.{◌≡◌, ◌+◌, ◌++◌, drop}
use Rattle.frag_code.specs.Emit.{code_cells}
use Rattle.frag_code.specs.Tables.{places_from}
use Rattle.frag_code.proofs.emission.places.Given as goal

-- the places so far and those of the pieces that are left are all
abbrev pub invariant-loop-piece : goal.invariant-loop-piece
invariant-loop-piece l = record {
  so_far : l.places.items ++ places_from l.jumps l.place (drop l.piece-index l.pieces) ≡ places_from l.jumps l.at l.pieces;
  left : l.place + code_cells l.jumps (drop l.piece-index l.pieces) ≡ l.at + code_cells l.jumps l.pieces;
}
