use Rattle.std.proofs.Common.{length, take, drop, ◌-◌, ◌≡◌, ◌≤◌}
use Rattle.sierra_text.specs.LabelReading.{bare_word_at}
use Rattle.sierra_text.proofs.Tokens.{word_from}
use Rattle.sierra_text.proofs.labels.any_word.Given as goal

abbrev pub invariant-loop-end : goal.invariant-loop-end
invariant-loop-end l = record {
  within : l.end ≤ length l.text;
  reading : word_from (take l.end l.text) (drop l.end l.text) ≡ bare_word_at l.text;
}

abbrev pub decreases-loop-end : goal.decreases-loop-end
decreases-loop-end l = length l.text - l.end
