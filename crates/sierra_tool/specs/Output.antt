-- How the output makes the text of an answer. Only contracts inside this crate cite it.
use Rattle.std.specs.Prelude.{ℕ, List, [], Option, string_bytes}
use Rattle.sierra_tool.specs.declared.answer.Answer.{Answer}
use Rattle.sierra_tool.specs.declared.answer.Answer.TheVariants as answers
use Rattle.sierra_tool.specs.declared.command.Command.{Command}
use Rattle.sierra_tool.specs.declared.output.AnswerText.{AnswerText}
use Rattle.sierra_tool.specs.declared.output.AnswerText.TheVariants as texts
use Rattle.sierra_tool.specs.Command.{text_of}

abbrev pub bytes_of : AnswerText → List ℕ
bytes_of (texts.Made text) = string_bytes text
bytes_of (texts.Line line) = line.items
bytes_of (texts.Held bytes) = bytes.now

-- the lines that are made for an answer as text; for bytes that it holds, and for a line of bytes, there are none
abbrev pub lines_of : Option Command → Answer → List ℕ
lines_of command (answers.Ran file) = []
lines_of command (answers.Evaluated text) = []
lines_of command (answers.Printed text) = []
lines_of command (answers.ProgramRefused refusal) = []
lines_of command answer = text_of command answer
