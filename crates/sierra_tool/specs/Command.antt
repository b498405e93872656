-- The commands: how each is written and what it reads, and the status and the text of each answer.
use Rattle.std.specs.Prelude.{ℕ, ◌≡◌, ◌<◌, ◌^◌, ◌⊎◌, Bool, true, false, if◌then◌else◌, List, [], ◌∷◌, Option, Some, None, IsSome, length, codes, decimal}
use Rattle.byte_reading.specs.Decimal.{decimal_text}
use Rattle.std.specs.List.{concat}
use Rattle.std.specs.Option.{unwrap_or}
use Rattle.first_form.specs.Texts.{verdict_text}
use Rattle.gas_solver.specs.Printing.{plan_text}
use Rattle.program_checks.specs.Lines.{refusal_line}
use Rattle.sierra_tool.specs.declared.answer.Answer.{Answer}
use Rattle.sierra_tool.specs.declared.answer.Answer.TheVariants as answers
use Rattle.sierra_tool.specs.declared.command.Command.{Command}
use Rattle.sierra_tool.specs.declared.command.Command.TheVariants as commands
use Rattle.sierra_tool.specs.declared.command.Source.{Source}
use Rattle.sierra_tool.specs.declared.command.Source.TheVariants as sources
use Rattle.sierra_tool.specs.Lines.{text_fault_line, asm_fault_line, input_fault_line, file_refusal_line, check_fault_line, words_text}

-- the arguments are a command that isn't built: `compile` with a program, `run` with a program, an input and a script, or
-- `make` with a number below 2 ^ 64
abbrev pub IsPlanned : List (List ℕ) → Type 0
IsPlanned [] = ⊥
IsPlanned (word ∷ others) =
    ((word ≡ codes "compile") × (length others ≡ 1))
    ⊎ ((word ≡ codes "run") × (length others ≡ 3))
    ⊎ ((word ≡ codes "make") × ((number : ℕ) × (number < 2 ^ 64) × (others ≡ decimal_text number ∷ [])))

-- the arguments are this command
abbrev pub IsCommand : List (List ℕ) → Command → Type 0
IsCommand arguments (commands.Check check) = arguments ≡ codes "check" ∷ check.program.now ∷ check.input.now ∷ check.run.now ∷ []
IsCommand arguments (commands.Run execute) = arguments ≡ codes "run" ∷ execute.program.now ∷ execute.input.now ∷ []
IsCommand arguments (commands.Eval evaluate) = arguments ≡ codes "eval" ∷ evaluate.program.now ∷ evaluate.input.now ∷ []
IsCommand arguments (commands.Gas gas) = arguments ≡ codes "gas" ∷ gas.program.now ∷ []
IsCommand arguments (commands.Show show) = arguments ≡ codes "show" ∷ show.program.now ∷ []
IsCommand arguments (commands.Asm assemble) = arguments ≡ codes "asm" ∷ assemble.file.now ∷ []
IsCommand arguments commands.Planned = IsPlanned arguments

-- the command that the arguments are, or None where they are none
abbrev pub Parses : List (List ℕ) → Option Command → Type 0
Parses arguments None = (command : Command) → IsCommand arguments command → ⊥
Parses arguments (Some command) = IsCommand arguments command

-- the files that a command reads, in the order of its work: what each is, and its name
abbrev pub files_of : Command → List (Source × List ℕ)
files_of (commands.Check check) =
    (sources.Program, check.program.now) ∷ (sources.Input, check.input.now) ∷ (sources.Run, check.run.now) ∷ []
files_of (commands.Run execute) = (sources.Program, execute.program.now) ∷ (sources.Input, execute.input.now) ∷ []
files_of (commands.Eval evaluate) = (sources.Program, evaluate.program.now) ∷ (sources.Input, evaluate.input.now) ∷ []
files_of (commands.Gas gas) = (sources.Program, gas.program.now) ∷ []
files_of (commands.Show show) = (sources.Program, show.program.now) ∷ []
files_of (commands.Asm assemble) = (sources.Casm, assemble.file.now) ∷ []
files_of commands.Planned = []

-- the two sources are one
abbrev pub is_same : Source → Source → Bool
is_same sources.Program sources.Program = true
is_same sources.Input sources.Input = true
is_same sources.Run sources.Run = true
is_same sources.Casm sources.Casm = true
is_same source other = false

-- the name of a source's file, among these
abbrev pub name_among : List (Source × List ℕ) → Source → Option (List ℕ)
name_among [] source = None
name_among (file ∷ files) source = if is_same file.0 source then Some file.1 else name_among files source

-- the name of the file for each source that a command reads
abbrev pub name_of : Option Command → Source → Option (List ℕ)
name_of None source = None
name_of (Some command) source = name_among (files_of command) source

-- the command reads this source
abbrev pub IsRead : Command → Source → Type 0
IsRead command source = IsSome (name_of (Some command) source)

-- the command goes by what a program means, and not by its text alone, so that the program has to pass the checks
abbrev pub IsCompiled : Command → Type 0
IsCompiled (commands.Check check) = Unit {0}
IsCompiled (commands.Run execute) = Unit {0}
IsCompiled (commands.Eval evaluate) = Unit {0}
IsCompiled (commands.Gas gas) = Unit {0}
IsCompiled (commands.Show show) = ⊥
IsCompiled (commands.Asm assemble) = ⊥
IsCompiled commands.Planned = ⊥

-- the command is about runs of a program's code: it makes one or judges one
abbrev pub RunsCode : Command → Type 0
RunsCode (commands.Check check) = Unit {0}
RunsCode (commands.Run execute) = Unit {0}
RunsCode (commands.Eval evaluate) = ⊥
RunsCode (commands.Gas gas) = ⊥
RunsCode (commands.Show show) = ⊥
RunsCode (commands.Asm assemble) = ⊥
RunsCode commands.Planned = ⊥

-- the command is about what a program means
abbrev pub Evaluates : Command → Type 0
Evaluates (commands.Check check) = ⊥
Evaluates (commands.Run execute) = ⊥
Evaluates (commands.Eval evaluate) = Unit {0}
Evaluates (commands.Gas gas) = ⊥
Evaluates (commands.Show show) = ⊥
Evaluates (commands.Asm assemble) = ⊥
Evaluates commands.Planned = ⊥

-- the name of the first of these files
abbrev pub first_among : List (Source × List ℕ) → Option (List ℕ)
first_among [] = None
first_among (file ∷ files) = Some file.1

-- the name of the file that is read first
abbrev pub first_name : Option Command → Option (List ℕ)
first_name None = None
first_name (Some command) = first_among (files_of command)

-- how many bytes a source may have
abbrev pub limit : Source → ℕ
limit source = 2 ^ 24

abbrev pub status_of : Answer → ℕ
status_of (answers.Judged verdict) = 0
status_of (answers.Ran file) = 0
status_of (answers.Evaluated text) = 0
status_of (answers.Plan plan) = 0
status_of (answers.Printed text) = 0
status_of (answers.Assembled code) = 0
status_of answers.Usage = 2
status_of (answers.Missing source) = 3
status_of (answers.ReadFault source) = 4
status_of (answers.TooLong source) = 7
status_of answers.NotBuilt = 9
status_of (answers.TextRefused fault) = 10
status_of (answers.CasmRefused fault) = 10
status_of (answers.ProgramRefused refusal) = 11
status_of (answers.InputRefused fault) = 12
status_of (answers.NotEnoughGas need given) = 13
status_of (answers.RunRefused refusal) = 14
status_of (answers.RunRejected fault) = 15

-- a line of this word and the name of the file
abbrev pub file_line : List ℕ → Option Command → Source → List ℕ
file_line word command source = concat (word ∷ unwrap_or (name_of command source) [] ∷ codes "\n" ∷ [])

-- what is written with each answer
abbrev pub text_of : Option Command → Answer → List ℕ
text_of command (answers.Judged verdict) = verdict_text verdict
text_of command (answers.Ran file) = file
text_of command (answers.Evaluated text) = text
text_of command (answers.Plan plan) = plan_text plan
text_of command (answers.Printed text) = text
text_of command (answers.Assembled code) = words_text code
text_of command answers.Usage = codes "usage\n"
text_of command (answers.Missing source) = file_line (codes "missing ") command source
text_of command (answers.ReadFault source) = file_line (codes "read fault ") command source
text_of command (answers.TooLong source) = file_line (codes "too long ") command source
text_of command answers.NotBuilt = codes "not built\n"
text_of command (answers.TextRefused fault) = text_fault_line fault
text_of command (answers.CasmRefused fault) = asm_fault_line fault
text_of command (answers.ProgramRefused refusal) = refusal_line refusal
text_of command (answers.InputRefused fault) = input_fault_line fault
text_of command (answers.NotEnoughGas need given) = concat (codes "need " ∷ decimal need ∷ codes " given " ∷ decimal given ∷ codes "\n" ∷ [])
text_of command (answers.RunRefused refusal) = file_refusal_line refusal
text_of command (answers.RunRejected fault) = check_fault_line fault
