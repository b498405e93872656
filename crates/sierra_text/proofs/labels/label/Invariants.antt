use Rattle.std.proofs.Common.{length, take, drop, ◌-◌, ◌≡◌, ◌≤◌}
use Rattle.sierra_text.specs.Depth.{depth_of}
use Rattle.sierra_text.specs.LabelReading.{label_at}
use Rattle.sierra_text.proofs.LabelFacts.{label_from, state_at}
use Rattle.sierra_text.proofs.labels.label.Given as goal

abbrev pub invariant-loop-end : goal.invariant-loop-end
invariant-loop-end l = record {
  within : l.end ≤ length l.text;
  depth : depth_of l.spot ≤ l.end;
  reading : label_from l.part (state_at (take l.end l.text) l.spot) (drop l.end l.text) ≡ label_at l.part l.text;
}

abbrev pub decreases-loop-end : goal.decreases-loop-end
decreases-loop-end l = length l.text - l.end
