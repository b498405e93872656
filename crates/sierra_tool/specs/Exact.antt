-- Of known files, when each status comes.
use Rattle.std.specs.Prelude.{ℕ, ◌≡◌, ◌≢◌, ◌↔◌, List, Option, Some, None}
use Rattle.std.specs.FinMap.{get}
use Rattle.std.specs.Option.{option_and_then}
use Rattle.casm_word.specs.declared.instr.Instr.{Instr}
use Rattle.edge_io.specs.Files.{FileMap}
use Rattle.first_form.specs.declared.program.Program.{Program}
use Rattle.first_form.specs.declared.input.Input.{Input}
use Rattle.first_form.specs.Runs.{IsAccepted}
use Rattle.gas_solver.specs.Accepting.{AcceptedView}
use Rattle.typed_values.specs.Inputs.{InputView}
use Rattle.run_file.specs.declared.run.Run.{Run}
use Rattle.sierra_types.specs.declared.program.Program.{Program as Tree}
use Rattle.sierra_tool.specs.declared.answer.Answer.{Answer}
use Rattle.sierra_tool.specs.declared.command.Assemble.{Assemble}
use Rattle.sierra_tool.specs.declared.command.Check.{Check}
use Rattle.sierra_tool.specs.declared.command.Command.{Command}
use Rattle.sierra_tool.specs.declared.command.Command.TheVariants as commands
use Rattle.sierra_tool.specs.declared.command.Evaluate.{Evaluate}
use Rattle.sierra_tool.specs.declared.command.Execute.{Execute}
use Rattle.sierra_tool.specs.declared.command.Gas.{Gas}
use Rattle.sierra_tool.specs.declared.command.Show.{Show}
use Rattle.sierra_tool.specs.declared.command.Source.TheVariants as sources
use Rattle.sierra_tool.specs.Causes.{Reading, absent, found, SourceReadings, Holds, Cause, CanRun, CanEvaluate, HasRun, HasCheckedTree, HasTree, IsCasm}
use Rattle.sierra_tool.specs.Command.{Parses, name_of, status_of}

-- what a file that is there, or isn't, gives where no read fails
abbrev pub reading_of : Option (List ℕ) → Reading
reading_of None = absent
reading_of (Some bytes) = found bytes

-- the readings of a known map where no read fails; a source that the command doesn't read has no file
abbrev pub readings_of : FileMap → Option Command → SourceReadings
readings_of files command source = reading_of (option_and_then (get files) (name_of command source))

-- a program and an input that has the gas were read
abbrev pub HasStart : SourceReadings → Type 0
HasStart readings = (program : Program) × (input : Input) × CanRun readings program input

-- a program that isn't refused and an input that fits it and has the gas were read
abbrev pub HasBeginning : SourceReadings → Type 0
HasBeginning readings = (a : AcceptedView) × (input : InputView) × CanEvaluate readings a input

-- a program, an input that has the gas, and a run were read, and this holds of the run
abbrev pub HasRunThat : SourceReadings → (Program → Input → Run → Type 0) → Type 0
HasRunThat readings is = (program : Program) × (input : Input) × (run : Run) × CanRun readings program input × HasRun readings run × is program input run

-- the text of a program that isn't refused was read
abbrev pub HasCheckedText : SourceReadings → Type 0
HasCheckedText readings = (tree : Tree) × HasCheckedTree readings tree

-- the text of a program was read
abbrev pub HasText : SourceReadings → Type 0
HasText readings = (tree : Tree) × HasTree readings tree

-- the text of code was read
abbrev pub HasCasm : SourceReadings → Type 0
HasCasm readings = (code : List Instr) × Holds sources.Casm (readings sources.Casm) (λ text. IsCasm text code)

-- Of known files, without a failed read or write and not out of memory, each status comes if and only if an answer of this
-- status has its cause in what the files have. So a check ends with 0 if and only if the run is accepted, and with 15 if
-- and only if it isn't; `run` ends with 0 if and only if there are a program and an input with the gas; `eval` if and only if
-- there are a program that isn't refused and an input that fits it and has the gas; `gas` if and only if the text is one of a
-- program that isn't refused; neither of the two ever with 9; and `show` and `asm` if and only if the text is one of a program,
-- or of code.
pub record HasExactStatus (files : FileMap) (command : Option Command) (status : ℕ) : Type 0 where
  pub each : (k : ℕ) → (status ≡ k) ↔ ((answer : Answer) × (status_of answer ≡ k) × Cause command (readings_of files command) answer)
  pub accepted : (check : Check) → command ≡ Some (commands.Check check) → (status ≡ 0) ↔ HasRunThat (readings_of files command) IsAccepted
  pub rejected : (check : Check) → command ≡ Some (commands.Check check) → (status ≡ 15) ↔ HasRunThat (readings_of files command) (λ program input run. IsAccepted program input run → ⊥)
  pub ran : (execute : Execute) → command ≡ Some (commands.Run execute) → (status ≡ 0) ↔ HasStart (readings_of files command)
  pub evaluated : (evaluate : Evaluate) → command ≡ Some (commands.Eval evaluate) → (status ≡ 0) ↔ HasBeginning (readings_of files command)
  pub meant : (evaluate : Evaluate) → command ≡ Some (commands.Eval evaluate) → status ≢ 9
  pub planned : (gas : Gas) → command ≡ Some (commands.Gas gas) → (status ≡ 0) ↔ HasCheckedText (readings_of files command)
  pub built : (gas : Gas) → command ≡ Some (commands.Gas gas) → status ≢ 9
  pub printed : (show : Show) → command ≡ Some (commands.Show show) → (status ≡ 0) ↔ HasText (readings_of files command)
  pub assembled : (assemble : Assemble) → command ≡ Some (commands.Asm assemble) → (status ≡ 0) ↔ HasCasm (readings_of files command)

abbrev pub IsExact : List (List ℕ) → Option FileMap → ℕ → Type 0
IsExact arguments None status = Unit {0}
IsExact arguments (Some files) status =
    status ≢ 4 → status ≢ 5 → status ≢ 6 → (command : Option Command) → Parses arguments command → HasExactStatus files command status
