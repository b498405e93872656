use Rattle.std.proofs.Common.{◌≡◌, take}
use Rattle.std.specs.Prelude.{string_bytes}
use Rattle.std.specs.List.{flat_map}
use Rattle.sierra_tool.specs.Lines.{instr_lines}
use Rattle.sierra_tool.proofs.lines.words_text.Given as goal

-- the lines of the instructions so far
abbrev pub invariant-loop-i : goal.invariant-loop-i
invariant-loop-i l = string_bytes l.text ≡ flat_map instr_lines (take l.i-index l.i-items)
