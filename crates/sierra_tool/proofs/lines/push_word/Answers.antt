use Rattle.std.proofs.Common.{[], ◌∷◌}
use Rattle.sierra_tool.proofs.WordLines.{padded_word}
use Rattle.sierra_tool.proofs.lines.push_word.Goals as goal

-- sixteen digits, filled up with zeros
pub returns : goal.returns
returns c = rw (c.in_radix.ensures, c.laid_out.ensures, padded_word c.args.word (10 ∷ [])) at c.writeln.ensures.bytes
