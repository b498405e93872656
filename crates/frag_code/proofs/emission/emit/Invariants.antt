use Rattle.std.proofs.Common.{◌≡◌, ◌+◌, ◌++◌, take, drop, slice_index}
use Rattle.frag_code.specs.Emit.{code_of, code_cells, code_from, hints_of, hints_from}
use Rattle.frag_code.proofs.emission.emit.Given as goal

-- the code and the hints so far and those of the pieces that are left are all
abbrev pub invariant-loop-i : goal.invariant-loop-i
invariant-loop-i l =
    let place = l.at + code_cells l.jumps (take l.i l.pieces) in
    record {
      code : l.emitted.code ++ code_from l.jumps (slice_index l.exits) l.i place (drop l.i l.pieces) ≡ code_of l.pieces l.at (slice_index l.exits);
      hints : l.emitted.hints.items ++ hints_from l.jumps place (drop l.i l.pieces) ≡ hints_of l.pieces l.at;
    }
