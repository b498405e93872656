use Rattle.std.proofs.Common.{◌≡◌, ◌≤◌, ◌^◌, take}
use Rattle.casm_text.specs.Refusals.{word_count}
use Rattle.casm_text.proofs.assembling.is_short.Given as goal

abbrev pub invariant-loop-i : goal.invariant-loop-i
invariant-loop-i l = record { count : l.count ≡ word_count (take l.i-index l.code); bound : l.count ≤ 2 ^ 24 }
