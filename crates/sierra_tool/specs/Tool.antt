-- The tool: which status it ends with, and what it has written then.
use Rattle.std.specs.Prelude.{ℕ, ◌≡◌, ◌≢◌, ◌⊎◌, List, [], Option, None, MatchOption}
use Rattle.edge_io.specs.Counts.{Rose}
use Rattle.edge_io.specs.Files.{FileMap, FilesView, ForFile}
use Rattle.edge_io.specs.Sinks.{SinkView, WritesAll, WritesPart}
use Rattle.sierra_tool.specs.declared.answer.Answer.{Answer}
use Rattle.sierra_tool.specs.declared.answer.Answer.TheVariants as answers
use Rattle.sierra_tool.specs.declared.command.Command.{Command}
use Rattle.sierra_tool.specs.declared.command.Source.{Source}
use Rattle.sierra_tool.specs.Causes.{SourceReadings, AreReadings, Cause}
use Rattle.sierra_tool.specs.Command.{Parses, first_name, status_of, text_of}

-- a missing file comes only with a miss that was counted, and a failed read with a fault
pub record IsCounted (before now : FilesView) (answer : Answer) : Type 0 where
  pub missed : (source : Source) → answer ≡ answers.Missing source → Rose before.misses now.misses
  pub failed : (source : Source) → answer ≡ answers.ReadFault source → Rose before.faults now.faults

-- the whole text was written under its status, or after a fault a prefix of it under status 5
abbrev pub Delivers : SinkView → SinkView → List ℕ → ℕ → ℕ → Type 0
Delivers before now text wanted status =
    ((status ≡ wanted) × WritesAll before now text) ⊎ ((status ≡ 5) × WritesPart before now text)

-- the files may have the first file of the command: known ones have it
abbrev pub MayHaveFirst : Option FileMap → Option Command → Type 0
MayHaveFirst known command = MatchOption (first_name command) (command ≢ None) (λ name. ForFile known name ⊥ (λ there. Unit {0}))

-- out of memory: nothing was written, and it comes neither where the arguments are no command, nor where a known map
-- lacks the first file
abbrev pub IsOutOfMemory : Option FileMap → SinkView → SinkView → Option Command → ℕ → Type 0
IsOutOfMemory known before now command status = (status ≡ 6) × MayHaveFirst known command × WritesAll before now []

-- the answer that what the files gave causes was written
pub record IsAnswered (before now : FilesView) (out written : SinkView) (command : Option Command) (status : ℕ) : Type 0 where
  pub readings : SourceReadings
  pub given : AreReadings before.contents command readings
  pub answer : Answer
  pub cause : Cause command readings answer
  pub counted : IsCounted before now answer
  pub delivered : Delivers out written (text_of command answer) (status_of answer) status

-- The tool on these arguments, with the files and the output before and after.
abbrev pub Tool : List (List ℕ) → FilesView → FilesView → SinkView → SinkView → ℕ → Type 0
Tool arguments before now out written status =
    (command : Option Command) × Parses arguments command
    × (IsAnswered before now out written command status ⊎ IsOutOfMemory before.contents out written command status)
