-- What the sources of a command gave, and which answer that causes.
use Rattle.std.specs.Prelude.{ℕ, ◌≡◌, ◌<◌, ◌≤◌, ◌⊎◌, List, [], ◌∷◌, length, Option, Some, None, Err, MatchOption}
use Rattle.std.specs.FinMap.{get}
use Rattle.edge_io.specs.Files.{FileMap}
use Rattle.run_file.specs.declared.refusal.FileRefusal.{FileRefusal}
use Rattle.run_file.specs.declared.run.Run.{Run}
use Rattle.run_file.specs.Reading.{reading}
use Rattle.run_file.specs.Spelling.{IsRun, spelling}
use Rattle.sierra_text.specs.Layout.{layout}
use Rattle.sierra_text.specs.Refusals.{IsShort, Refused}
use Rattle.sierra_text.specs.Text.{Text, standard}
use Rattle.sierra_types.specs.declared.program.Program.{Program as Tree}
use Rattle.sierra_tool.specs.declared.answer.Answer.{Answer}
use Rattle.sierra_tool.specs.declared.answer.Answer.TheVariants as answers
use Rattle.sierra_tool.specs.declared.command.Command.{Command}
use Rattle.sierra_tool.specs.declared.command.Command.TheVariants as commands
use Rattle.sierra_tool.specs.declared.command.Execute.{Execute}
use Rattle.sierra_tool.specs.declared.command.Gas.{Gas}
use Rattle.sierra_tool.specs.declared.command.Show.{Show}
use Rattle.sierra_tool.specs.declared.command.Source.{Source}
use Rattle.sierra_tool.specs.declared.command.Source.TheVariants as sources
use Rattle.first_form.specs.declared.program.Program.{Program}
use Rattle.first_form.specs.declared.input.Input.{Input}
use Rattle.sierra_tool.specs.Command.{name_of, IsRead, IsCompiled, RunsCode, Evaluates, limit}
use Rattle.casm_text.specs.Refusals as casm_refusals
use Rattle.casm_text.specs.Text as casm
use Rattle.casm_word.specs.declared.instr.Instr.{Instr}
use Rattle.first_form.specs.Forms.{IsProgram, IsInput}
use Rattle.program_checks.specs.Checks as checks
use Rattle.program_checks.specs.declared.refusal.Refusal.{Refusal}
use Rattle.libfunc_registry.specs.Fam.{params_of}
use Rattle.gas_solver.specs.Accepting as accepting
use Rattle.gas_solver.specs.Accepting.{AcceptedView}
use Rattle.typed_values.specs.Faults.{IsInputFault}
use Rattle.typed_values.specs.Inputs.{InputView, input_text}
use Rattle.typed_values.specs.Outcome.{OutcomeView, others_of}
use Rattle.typed_values.specs.Texts.{outcome_text}
use Rattle.type_trees.specs.Ty.{Ty, number}
use Rattle.type_trees.specs.declared.num.Num.TheVariants as nums
use Rattle.typed_values.specs.declared.fault.InputFault.{InputFault}
use Rattle.sierra_meaning.specs.Main.{statement_bound}
use Rattle.sierra_meaning.specs.Outcome.{Fits, MeansWithin}
use Rattle.first_form.specs.Honest.{honest_run}
use Rattle.first_form.specs.Meaning.{entry_gas}
use Rattle.first_form.specs.Rejected.{IsRejected}
use Rattle.first_form.specs.Runs.{IsAccepted, IsVerdict}

-- ---- SourceReadings: what each source gave

-- no file of the name, a read that failed, or the file's bytes
pub data Reading : Type 0 where
  absent : Reading
  unread : Reading
  found : List ℕ → Reading

abbrev pub SourceReadings : Type 0
SourceReadings = Source → Reading

-- What a file can give: of a known map what it has there, or, of a file that it has, a failed read; else anything.
abbrev pub Gives : Option FileMap → List ℕ → Reading → Type 0
Gives None name given = Unit {0}
Gives (Some files) name given = MatchOption (get files name) (given ≡ absent) (λ bytes. (given ≡ found bytes) ⊎ (given ≡ unread))

-- what the files can give to a command
abbrev pub AreReadings : Option FileMap → Option Command → SourceReadings → Type 0
AreReadings known command readings =
    (source : Source) → MatchOption (name_of command source) (readings source ≡ absent) (λ name. Gives known name (readings source))

-- ---- What was read

-- the source gave bytes, no more than it may have, and this holds of them
abbrev pub Holds : Source → Reading → (List ℕ → Type 0) → Type 0
Holds source given is = (bytes : List ℕ) × (given ≡ found bytes) × (length bytes ≤ limit source) × is bytes

-- it gave more bytes than it may have
abbrev pub IsTooLong : Source → Reading → Type 0
IsTooLong source given = (bytes : List ℕ) × (given ≡ found bytes) × (limit source < length bytes)

-- the bytes are a run file, that of this run
abbrev pub IsRunFile : List ℕ → Run → Type 0
IsRunFile bytes run = IsRun run × (bytes ≡ spelling run)

-- the text is that of a program with no more parts than a program may have
abbrev pub IsTree : List ℕ → Tree → Type 0
IsTree text tree = Text standard tree text × IsShort tree

-- the text is that of a program that isn't refused
abbrev pub IsCheckedTree : List ℕ → Tree → Type 0
IsCheckedTree text tree = IsTree text tree × checks.Passes tree

-- the text is that of a program that is refused
abbrev pub IsRefusedTree : List ℕ → Refusal → Type 0
IsRefusedTree text refusal = (tree : Tree) × IsTree text tree × checks.Refused tree refusal

-- the text is that of a program that isn't refused, with all that is found of it
abbrev pub IsAcceptedText : List ℕ → AcceptedView → Type 0
IsAcceptedText text a = IsCheckedTree text a.program × accepting.IsAccepted a

-- the text is that of an input which fits main of the program
abbrev pub IsInputOf : AcceptedView → List ℕ → InputView → Type 0
IsInputOf a text input = Fits a input × (text ≡ input_text input)

-- the types of main's parameters that are no builtins
abbrev pub argument_types : AcceptedView → List Ty
argument_types a = others_of (params_of a.types a.main)

-- the text is that of no such input, for this reason
abbrev pub IsNoInputOf : AcceptedView → List ℕ → InputFault → Type 0
IsNoInputOf a text fault = IsInputFault (argument_types a) text fault

-- the text is that of the outcome which the program means on the input: main ends with it, after no more statements than the bound
abbrev pub IsOutcomeOf : AcceptedView → InputView → List ℕ → Type 0
IsOutcomeOf a input text = (outcome : OutcomeView) × MeansWithin a input (statement_bound a input.gas) outcome × (text ≡ outcome_text outcome)

-- main takes one number of the field besides its builtins
abbrev pub TakesOneFelt : AcceptedView → Type 0
TakesOneFelt a = argument_types a ≡ number nums.Felt64 ∷ []

-- the program is this one of the form that is built: the plain layout is the form's text
abbrev pub IsForm : AcceptedView → Program → Type 0
IsForm a program = IsProgram (layout a.program) program × TakesOneFelt a

-- the text is that of a program of the form that is built, whatever its layout
abbrev pub IsOfForm : List ℕ → Program → Type 0
IsOfForm text program = (a : AcceptedView) × IsAcceptedText text a × IsForm a program

-- the text is that of a program that isn't refused, but of none of the form that is built
abbrev pub IsOfNoForm : List ℕ → Type 0
IsOfNoForm text = (a : AcceptedView) × IsAcceptedText text a × ((program : Program) → IsForm a program → ⊥)

-- a text of a program that isn't refused was read
abbrev pub HasCheckedTree : SourceReadings → Tree → Type 0
HasCheckedTree readings tree = Holds sources.Program (readings sources.Program) (λ text. IsCheckedTree text tree)

abbrev pub HasTree : SourceReadings → Tree → Type 0
HasTree readings tree = Holds sources.Program (readings sources.Program) (λ text. IsTree text tree)

abbrev pub HasAccepted : SourceReadings → AcceptedView → Type 0
HasAccepted readings a = Holds sources.Program (readings sources.Program) (λ text. IsAcceptedText text a)

abbrev pub HasInputOf : SourceReadings → AcceptedView → InputView → Type 0
HasInputOf readings a input = Holds sources.Input (readings sources.Input) (λ text. IsInputOf a text input)

abbrev pub HasProgram : SourceReadings → Program → Type 0
HasProgram readings program = Holds sources.Program (readings sources.Program) (λ text. IsOfForm text program)

abbrev pub HasInput : SourceReadings → Program → Input → Type 0
HasInput readings program input = Holds sources.Input (readings sources.Input) (λ text. IsInput program text input)

abbrev pub HasRun : SourceReadings → Run → Type 0
HasRun readings run = Holds sources.Run (readings sources.Run) (λ bytes. IsRunFile bytes run)

-- a program and an input for it were read, and the input has the gas that a run of the program needs
pub record CanRun (readings : SourceReadings) (program : Program) (input : Input) : Type 0 where
  pub program_read : HasProgram readings program
  pub input_read : HasInput readings program input
  pub gas : entry_gas program ≤ input.gas

-- a program and an input that fits its main were read, and the input has the gas that the program needs to begin
pub record CanEvaluate (readings : SourceReadings) (a : AcceptedView) (input : InputView) : Type 0 where
  pub program_read : HasAccepted readings a
  pub input_read : HasInputOf readings a input
  pub gas : a.plan.entry ≤ input.gas

-- the command reads this source, and nothing that comes before it is refused
abbrev pub ComesTo : Command → SourceReadings → Source → Type 0
ComesTo command readings sources.Program = IsRead command sources.Program
ComesTo command readings sources.Input =
    (RunsCode command × (program : Program) × HasProgram readings program)
    ⊎ (Evaluates command × (a : AcceptedView) × HasAccepted readings a)
ComesTo command readings sources.Run =
    IsRead command sources.Run × (program : Program) × (input : Input) × CanRun readings program input
ComesTo command readings sources.Casm = IsRead command sources.Casm

-- the bytes are no run file, and this is their first refusal in byte order
abbrev pub IsNoRunFile : List ℕ → FileRefusal → Type 0
IsNoRunFile bytes refusal = ((run : Run) → IsRunFile bytes run → ⊥) × (reading bytes ≡ Err refusal)

-- the text is that of this code, which has no more words than code may have
abbrev pub IsCasm : List ℕ → List Instr → Type 0
IsCasm text code = casm.Text casm.standard code text × casm_refusals.IsShort code

-- ---- Causes

-- What causes each answer to a command, in the order of work. Arguments that are no command are refused as such.
abbrev pub Cause : Option Command → SourceReadings → Answer → Type 0
Cause None readings answer = answer ≡ answers.Usage
Cause (Some command) readings answers.Usage = ⊥
Cause (Some command) readings (answers.Missing source) = ComesTo command readings source × (readings source ≡ absent)
Cause (Some command) readings (answers.ReadFault source) = ComesTo command readings source × (readings source ≡ unread)
Cause (Some command) readings (answers.TooLong source) = ComesTo command readings source × IsTooLong source (readings source)
Cause (Some command) readings answers.NotBuilt =
    (command ≡ commands.Planned)
    ⊎ (RunsCode command × Holds sources.Program (readings sources.Program) IsOfNoForm)
Cause (Some command) readings (answers.TextRefused fault) =
    IsRead command sources.Program × Holds sources.Program (readings sources.Program) (λ text. Refused text fault)
Cause (Some command) readings (answers.ProgramRefused refusal) =
    IsCompiled command × Holds sources.Program (readings sources.Program) (λ text. IsRefusedTree text refusal)
Cause (Some command) readings (answers.CasmRefused fault) =
    IsRead command sources.Casm × Holds sources.Casm (readings sources.Casm) (λ text. casm_refusals.Refused text fault)
Cause (Some command) readings (answers.InputRefused fault) =
    ComesTo command readings sources.Input × (a : AcceptedView) × HasAccepted readings a
    × Holds sources.Input (readings sources.Input) (λ text. IsNoInputOf a text fault)
Cause (Some command) readings (answers.NotEnoughGas need given) =
    (RunsCode command × (program : Program) × (input : Input)
    × HasProgram readings program × HasInput readings program input × (given < need) × (need ≡ entry_gas program) × (given ≡ input.gas))
    ⊎ (Evaluates command × (a : AcceptedView) × (input : InputView)
    × HasAccepted readings a × HasInputOf readings a input × (given < need) × (need ≡ a.plan.entry) × (given ≡ input.gas))
Cause (Some command) readings (answers.RunRefused refusal) =
    ComesTo command readings sources.Run × Holds sources.Run (readings sources.Run) (λ bytes. IsNoRunFile bytes refusal)
Cause (Some command) readings (answers.RunRejected fault) =
    IsRead command sources.Run × (program : Program) × (input : Input) × (run : Run)
    × CanRun readings program input × HasRun readings run × IsRejected program input run fault
Cause (Some command) readings (answers.Judged verdict) =
    IsRead command sources.Run × (program : Program) × (input : Input) × (run : Run)
    × CanRun readings program input × HasRun readings run × IsAccepted program input run × IsVerdict program input run verdict
Cause (Some command) readings (answers.Ran file) =
    (execute : Execute) × (command ≡ commands.Run execute) × (program : Program) × (input : Input)
    × CanRun readings program input × (file ≡ spelling (honest_run program input))
Cause (Some command) readings (answers.Evaluated text) =
    Evaluates command × (a : AcceptedView) × (input : InputView) × CanEvaluate readings a input × IsOutcomeOf a input text
Cause (Some command) readings (answers.Plan plan) =
    (gas : Gas) × (command ≡ commands.Gas gas) × (tree : Tree) × HasCheckedTree readings tree × checks.HasPlan tree plan
Cause (Some command) readings (answers.Printed text) =
    (show : Show) × (command ≡ commands.Show show) × (tree : Tree) × HasTree readings tree × (text ≡ layout tree)
Cause (Some command) readings (answers.Assembled code) =
    IsRead command sources.Casm × Holds sources.Casm (readings sources.Casm) (λ text. IsCasm text code)
