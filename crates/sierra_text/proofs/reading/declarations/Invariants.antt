use Rattle.std.proofs.Common.{◌≡◌, length}
use Rattle.sierra_text.specs.Text.{standard}
use Rattle.sierra_text.specs.Parts.{progress_of}
use Rattle.sierra_text.specs.ProgramReading.{at_start, declarations_at}
use Rattle.sierra_text.proofs.reading.declarations.Given as goal

abbrev pub invariant-loop-alloc : goal.invariant-loop-alloc
invariant-loop-alloc l = declarations_at standard (progress_of l.parts) l.rest.now ≡ declarations_at standard at_start l.fn.rest.now

abbrev pub decreases-loop-alloc : goal.decreases-loop-alloc
decreases-loop-alloc l = length l.rest.now
