use Rattle.std.proofs.Common.{◌≡◌, take}
use Rattle.std.specs.List.{All}
use Rattle.std.specs.String.{string_bytes}
use Rattle.casm_word.specs.Bounds.{IsInstrNear}
use Rattle.casm_text.specs.Printing.{printed}
use Rattle.casm_text.proofs.printing.print.Given as goal

abbrev pub invariant-loop-i : goal.invariant-loop-i
invariant-loop-i l = record {
  text : string_bytes l.text ≡ printed (take l.i-index l.i-items);
  near : All IsInstrNear (take l.i-index l.i-items);
}
