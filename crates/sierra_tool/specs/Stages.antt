-- What the parts of a command's work give, one source at a time. Only contracts inside this crate cite it.
use Rattle.std.specs.Prelude.{⊤, ℕ, ◌≡◌, ◌≢◌, ◌⊎◌, ◌≤◌, ◌<◌, List, [], length, Option, Some, Result, Ok, Err, MatchResult}
use Rattle.edge_io.specs.Files.{FilesView, Keeps}
use Rattle.edge_io.specs.Sinks.{SinkView, WritesAll, WritesPart}
use Rattle.run_file.specs.declared.refusal.FileRefusal.{FileRefusal}
use Rattle.casm_text.specs.Refusals as casm_refusals
use Rattle.sierra_text.specs.Refusals.{Refused}
use Rattle.sierra_text.specs.declared.fault.TextFault.{TextFault}
use Rattle.casm_text.specs.declared.fault.AsmFault.{AsmFault}
use Rattle.sierra_tool.specs.declared.answer.Answer.{Answer}
use Rattle.sierra_tool.specs.declared.answer.Answer.TheVariants as answers
use Rattle.sierra_tool.specs.declared.answer.Stop.{Stop}
use Rattle.sierra_tool.specs.declared.answer.Stop.TheVariants as stops
use Rattle.sierra_tool.specs.declared.command.Command.{Command}
use Rattle.sierra_tool.specs.declared.command.Source.{Source}
use Rattle.sierra_tool.specs.declared.command.Source.TheVariants as sources
use Rattle.sierra_tool.specs.declared.output.Unwritten.{Unwritten}
use Rattle.sierra_tool.specs.declared.output.Unwritten.TheVariants as unwritten
use Rattle.sierra_tool.specs.declared.work.Start.{Start}
use Rattle.sierra_tool.specs.Causes.{Reading, absent, unread, found, SourceReadings, Gives, AreReadings, Holds, IsTooLong, IsRefusedTree, IsAcceptedText, IsForm, IsOfNoForm, IsNoInputOf, IsNoRunFile, CanRun, Cause}
use Rattle.gas_solver.specs.Accepting.{AcceptedView}
use Rattle.first_form.specs.Meaning.{entry_gas}
use Rattle.first_form.specs.declared.program.Program.{Program}
use Rattle.typed_values.specs.Inputs.{InputView}
use Rattle.typed_values.specs.declared.fault.InputFault.{InputFault}
use Rattle.program_checks.specs.Checks as checks
use Rattle.program_checks.specs.declared.checking.Checked.{Checked}
use Rattle.program_checks.specs.declared.refusal.Refusal.{Refusal}
use Rattle.sierra_types.specs.declared.program.Program.{Program as Tree}
use Rattle.sierra_tool.specs.Command.{name_of, limit, status_of, text_of}
use Rattle.sierra_tool.specs.OneNumber.{with_number}
use Rattle.sierra_tool.specs.Tool.{IsCounted, Delivers, MayHaveFirst}

-- a stop is a refusal or out of memory
abbrev pub Stops : (Answer → Type 0) → Type 0 → Stop → Type 0
Stops refused out_of_memory (stops.Refused answer) = refused answer
Stops refused out_of_memory stops.OutOfMemory = out_of_memory

-- the refusal of a source that isn't there, wasn't read or is too long
abbrev pub IsUnfit : Source → Reading → Answer → Type 0
IsUnfit source given answer =
    ((given ≡ absent) × (answer ≡ answers.Missing source))
    ⊎ ((given ≡ unread) × (answer ≡ answers.ReadFault source))
    ⊎ (IsTooLong source given × (answer ≡ answers.TooLong source))

-- .. or whose bytes have this wrong with them
abbrev pub IsRefused : Source → (List ℕ → Answer → Type 0) → Reading → Answer → Type 0
IsRefused source wrong given answer = IsUnfit source given answer ⊎ Holds source given (λ bytes. wrong bytes answer)

abbrev pub NoTree : List ℕ → Answer → Type 0
NoTree text answer = (fault : TextFault) × Refused text fault × (answer ≡ answers.TextRefused fault)

-- the refusal of a program that doesn't pass the checks
abbrev pub FailsChecks : List ℕ → Answer → Type 0
FailsChecks text answer = (refusal : Refusal) × IsRefusedTree text refusal × (answer ≡ answers.ProgramRefused refusal)

-- the refusal of a text that isn't that of a program which passes them
abbrev pub NoChecked : List ℕ → Answer → Type 0
NoChecked text answer = NoTree text answer ⊎ FailsChecks text answer

abbrev pub NoProgram : List ℕ → Answer → Type 0
NoProgram text answer = NoTree text answer ⊎ FailsChecks text answer ⊎ (IsOfNoForm text × (answer ≡ answers.NotBuilt))

abbrev pub NoInputOf : AcceptedView → List ℕ → Answer → Type 0
NoInputOf a text answer = (fault : InputFault) × IsNoInputOf a text fault × (answer ≡ answers.InputRefused fault)

abbrev pub NoRun : List ℕ → Answer → Type 0
NoRun bytes answer = (refusal : FileRefusal) × IsNoRunFile bytes refusal × (answer ≡ answers.RunRefused refusal)

abbrev pub NoCasm : List ℕ → Answer → Type 0
NoCasm text answer = (fault : AsmFault) × casm_refusals.Refused text fault × (answer ≡ answers.CasmRefused fault)

abbrev pub IsNotMissing : Answer → Type 0
IsNotMissing answer = (source : Source) → answer ≢ answers.Missing source

-- A part that reads one source: the files gave a reading, and the result comes from it.
pub record ReadsSource {X : Type 0} (before now : FilesView) (name : List ℕ) (taken : Reading → X → Type 0) (refused : Reading → Answer → Type 0) (result : Result X Stop) : Type 0 where
  pub keeps : Keeps before now
  pub reading : Reading
  pub given : Gives before.contents name reading
  pub outcome : MatchResult result (taken reading) (Stops (λ answer. refused reading answer × IsCounted before now answer) (reading ≢ absent))

-- a tree passes the checks of programs, which find this of it, or the stop is the refusal of the one that it doesn't pass
abbrev pub PassesChecks : Tree → Result Checked Stop → Type 0
PassesChecks tree result =
    MatchResult result (checks.Finds tree) (Stops (λ answer. (refusal : Refusal) × checks.Refused tree refusal × (answer ≡ answers.ProgramRefused refusal)) (Unit {0}))

-- the program of a file, with all that is found of it
abbrev pub ReadsAccepted : FilesView → FilesView → List ℕ → Result AcceptedView Stop → Type 0
ReadsAccepted before now name =
    ReadsSource before now name (λ given a. Holds sources.Program given (λ text. IsAcceptedText text a)) (IsRefused sources.Program NoChecked)

-- Wherever this program was read from the command's file, work since then has done this, as seen from before that reading.
abbrev pub OnceRead : FilesView → Option Command → AcceptedView → (FilesView → Type 0) → Type 0
OnceRead now command a done =
    (before : FilesView) (name : List ℕ) → name_of command sources.Program ≡ Some name → ReadsAccepted before now name (Ok a) → done before

-- the program of the form that is built which the accepted program is, or it is of no such form
abbrev pub GivesForm : AcceptedView → Result Program Stop → Type 0
GivesForm a result =
    MatchResult result (IsForm a) (Stops (λ answer. ((program : Program) → IsForm a program → ⊥) × (answer ≡ answers.NotBuilt)) (Unit {0}))

-- the program with the input's one number, or the input has less gas than a run of the program needs
abbrev pub GivesStart : Program → InputView → Result Start Stop → Type 0
GivesStart program input result =
    MatchResult result
    (λ start. (start.program ≡ program) × (input ≡ with_number start.input) × (entry_gas program ≤ input.gas))
    (Stops (λ answer. (input.gas < entry_gas program) × (answer ≡ answers.NotEnoughGas (entry_gas program) input.gas)) ⊥)

-- the bytes that were found
abbrev pub IsFound : Source → Reading → List ℕ → Type 0
IsFound source given bytes = (given ≡ found bytes) × (length bytes ≤ limit source)

-- the readings cause this answer, and its count rose
abbrev pub IsCaused : FilesView → FilesView → Option Command → SourceReadings → Answer → Type 0
IsCaused before now command readings answer = Cause command readings answer × IsCounted before now answer

-- A part of a command's work up to some point: the files gave readings, and the result comes from them.
pub record Reaches {X : Type 0} (before now : FilesView) (command : Option Command) (taken : SourceReadings → X → Type 0) (result : Result X Stop) : Type 0 where
  pub keeps : Keeps before now
  pub readings : SourceReadings
  pub given : AreReadings before.contents command readings
  pub outcome : MatchResult result (taken readings) (Stops (IsCaused before now command readings) (MayHaveFirst before.contents command))

-- a command's whole work, up to its answer
abbrev pub Works : FilesView → FilesView → Option Command → Result Answer Stop → Type 0
Works before now command = Reaches before now command (IsCaused before now command)

-- .. up to the program and the input that it can run
abbrev pub Starts : FilesView → FilesView → Option Command → Result Start Stop → Type 0
Starts before now command = Reaches before now command (λ readings start. CanRun readings start.program start.input)

-- an answer was written, or a write failed, or there was no memory for a text other than a missing file's
abbrev pub IsWritten : SinkView → SinkView → Option Command → Answer → Result ⊤ Unwritten → Type 0
IsWritten before now command answer (Ok done) = WritesAll before now (text_of command answer)
IsWritten before now command answer (Err unwritten.Failed) = WritesPart before now (text_of command answer)
IsWritten before now command answer (Err unwritten.OutOfMemory) = WritesAll before now [] × IsNotMissing answer

-- the same under the status that the tool ends with
abbrev pub IsDelivered : SinkView → SinkView → Option Command → Answer → ℕ → Type 0
IsDelivered before now command answer status =
    Delivers before now (text_of command answer) (status_of answer) status
    ⊎ ((status ≡ 6) × WritesAll before now [] × IsNotMissing answer)
