use Rattle.std.proofs.Common.{◌≡◌, ◌++◌}
use Rattle.lower_kit.specs.Pieces.{boxed_piece, pieces_of}
use Rattle.lower_kit.proofs.rows.push_boxed.Given as goal

abbrev pub invariant-loop-k : goal.invariant-loop-k
invariant-loop-k l = l.frag ≡ l.initial.frag ++ pieces_of (boxed_piece l.args) l.k
