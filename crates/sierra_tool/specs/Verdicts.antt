-- What `check` writes at status 0: the verdict of an accepted run, which is the meaning of the program on the input.
use Rattle.std.specs.Prelude.{ℕ, ◌≡◌, List}
use Rattle.edge_io.specs.Files.{FilesView}
use Rattle.edge_io.specs.Sinks.{SinkView, WritesAll}
use Rattle.first_form.specs.declared.program.Program.{Program}
use Rattle.first_form.specs.declared.input.Input.{Input}
use Rattle.first_form.specs.declared.verdict.Verdict.{Verdict}
use Rattle.first_form.specs.Forms.{IsInput}
use Rattle.first_form.specs.Runs.{IsAccepted, IsVerdict}
use Rattle.first_form.specs.Texts.{verdict_text}
use Rattle.run_file.specs.declared.run.Run.{Run}
use Rattle.sierra_tool.specs.declared.command.Check.{Check}
use Rattle.sierra_tool.specs.declared.command.Command.TheVariants as commands
use Rattle.sierra_tool.specs.Causes.{found, Gives, IsOfForm, IsRunFile}
use Rattle.sierra_tool.specs.Command.{IsCommand}

-- The files gave the texts of a program and of an input for it, and a run file, whoever made it. The run is accepted, the verdict
-- is the one to believe of it, and its text was written. Where it isn't known what the files hold, nothing says more of the three
-- texts than that a command may have read them.
pub record WritesVerdict (before : FilesView) (out written : SinkView) (check : Check) : Type 0 where
  pub program_text : List ℕ
  pub program_read : Gives before.contents check.program.now (found program_text)
  pub program : Program
  pub is_program : IsOfForm program_text program
  pub input_text : List ℕ
  pub input_read : Gives before.contents check.input.now (found input_text)
  pub input : Input
  pub is_input : IsInput program input_text input
  pub run_bytes : List ℕ
  pub run_read : Gives before.contents check.run.now (found run_bytes)
  pub run : Run
  pub is_run : IsRunFile run_bytes run
  pub accepted : IsAccepted program input run
  pub verdict : Verdict
  pub is_verdict : IsVerdict program input run verdict
  pub written_whole : WritesAll out written (verdict_text verdict)

-- where `check` ends with status 0
abbrev pub VerdictsAreMeant : List (List ℕ) → FilesView → SinkView → SinkView → ℕ → Type 0
VerdictsAreMeant arguments before out written status =
    (check : Check) → IsCommand arguments (commands.Check check) → status ≡ 0 → WritesVerdict before out written check
