-- What `run` writes: the run file of a run that is accepted, and whose verdict is the meaning. What `eval` writes: the meaning.
use Rattle.std.specs.Prelude.{ℕ, ◌≡◌, ◌≤◌, List, length, Some}
use Rattle.edge_io.specs.Files.{FilesView}
use Rattle.edge_io.specs.Sinks.{SinkView, WritesAll}
use Rattle.first_form.specs.declared.program.Program.{Program}
use Rattle.first_form.specs.declared.input.Input.{Input}
use Rattle.first_form.specs.declared.verdict.Verdict.{Verdict}
use Rattle.first_form.specs.Runs.{IsAccepted, IsVerdict}
use Rattle.gas_solver.specs.Accepting.{AcceptedView}
use Rattle.run_file.specs.declared.run.Run.{Run}
use Rattle.sierra_meaning.specs.Main.{statement_bound}
use Rattle.sierra_meaning.specs.Outcome.{MeansWithin}
use Rattle.sierra_tool.specs.declared.command.Command.TheVariants as commands
use Rattle.sierra_tool.specs.declared.command.Evaluate.{Evaluate}
use Rattle.sierra_tool.specs.declared.command.Execute.{Execute}
use Rattle.sierra_tool.specs.declared.command.Source.TheVariants as sources
use Rattle.sierra_tool.specs.Causes.{SourceReadings, AreReadings, IsRunFile, CanRun, CanEvaluate}
use Rattle.sierra_tool.specs.Command.{IsCommand, limit}
use Rattle.typed_values.specs.Inputs.{InputView}
use Rattle.typed_values.specs.Outcome.{OutcomeView}
use Rattle.typed_values.specs.Texts.{outcome_text}

-- a run file was written, and `check` accepts it with the program and the input that were read: it is no longer than `check`
-- reads, its run is accepted, and the verdict that it shows is the meaning
pub record WritesAcceptedRun (before : FilesView) (out written : SinkView) (execute : Execute) : Type 0 where
  pub readings : SourceReadings
  pub given : AreReadings before.contents (Some (commands.Run execute)) readings
  pub program : Program
  pub input : Input
  pub start : CanRun readings program input
  pub run : Run
  pub file : List ℕ
  pub written_whole : WritesAll out written file
  pub is_file : IsRunFile file run
  pub is_short : length file ≤ limit sources.Run
  pub accepted : IsAccepted program input run
  pub verdict : Verdict
  pub is_verdict : IsVerdict program input run verdict

-- where `run` ends with status 0
abbrev pub RunsAreAccepted : List (List ℕ) → FilesView → SinkView → SinkView → ℕ → Type 0
RunsAreAccepted arguments before out written status =
    (execute : Execute) → IsCommand arguments (commands.Run execute) → status ≡ 0 → WritesAcceptedRun before out written execute

-- what was written is the text of an outcome, which the program that was read means on the input that was read: main ends with
-- it, after no more statements than the bound
pub record WritesMeaning (before : FilesView) (out written : SinkView) (evaluate : Evaluate) : Type 0 where
  pub readings : SourceReadings
  pub given : AreReadings before.contents (Some (commands.Eval evaluate)) readings
  pub program : AcceptedView
  pub input : InputView
  pub start : CanEvaluate readings program input
  pub outcome : OutcomeView
  pub is_meaning : MeansWithin program input (statement_bound program input.gas) outcome
  pub written_whole : WritesAll out written (outcome_text outcome)

-- where `eval` ends with status 0
abbrev pub OutcomesAreMeant : List (List ℕ) → FilesView → SinkView → SinkView → ℕ → Type 0
OutcomesAreMeant arguments before out written status =
    (evaluate : Evaluate) → IsCommand arguments (commands.Eval evaluate) → status ≡ 0 → WritesMeaning before out written evaluate
