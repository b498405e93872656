use Rattle.std.proofs.Common.{◌≡◌, length}
use Rattle.text_reading.specs.Reading.{items_at}
use Rattle.text_reading.proofs.WholeTexts.{behind_items}
use Rattle.casm_text.specs.Text.{standard}
use Rattle.casm_text.specs.Reading.{instr_at}
use Rattle.casm_text.proofs.assembling.instrs.Given as goal

abbrev pub invariant-loop-rest : goal.invariant-loop-rest
invariant-loop-rest l = behind_items l.code (items_at (instr_at standard) l.rest.now) ≡ items_at (instr_at standard) l.fn.rest.now

abbrev pub decreases-loop-rest : goal.decreases-loop-rest
decreases-loop-rest l = length l.rest.now
