use Rattle.std.proofs.Common.{◌≡◌, ◌+◌, ◌++◌, ℕ, List, length}
use Rattle.std.specs.Prelude.{IsTrue}
use Rattle.run_file.specs.Stages.{in_states}
use Rattle.run_file.specs.Progress.{IsProgress, rest_of}
use Rattle.run_file.proofs.reader.take.Given as goal

abbrev pub invariant-loop-number : goal.invariant-loop-number
invariant-loop-number l = record {
  fits : IsProgress l.progress;
  count : l.progress.at + length l.unfinished + length l.rest ≡ l.fn.progress.at + length l.fn.unfinished + length l.fn.piece;
  same : (more : List ℕ) → rest_of l.progress (l.unfinished ++ (l.rest ++ more)) ≡ rest_of l.fn.progress (l.fn.unfinished ++ (l.fn.piece ++ more));
  room : IsTrue (in_states l.fn.progress.stage) → IsTrue (in_states l.progress.stage);
}

abbrev pub decreases-loop-number : goal.decreases-loop-number
decreases-loop-number l = length l.unfinished + length l.rest
