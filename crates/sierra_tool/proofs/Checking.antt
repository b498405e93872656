-- A check behind what its run starts from: the run file, and the judgement of the run.
use Rattle.std.proofs.Common.{Some, Ok, Err, refl, sym, subst, inl, inr}
use Rattle.edge_io.specs.Files.{FilesView}
use Rattle.first_form.specs.declared.judgement.Judgement.{Judgement}
use Rattle.first_form.specs.declared.judgement.Judgement.TheVariants as judgements
use Rattle.first_form.specs.Judgements.{IsJudgement}
use Rattle.run_file.specs.declared.run.Run.{Run}
use Rattle.sierra_tool.specs.declared.answer.Answer.{Answer}
use Rattle.sierra_tool.specs.declared.answer.Answer.TheVariants as answers
use Rattle.sierra_tool.specs.declared.answer.Stop.{Stop}
use Rattle.sierra_tool.specs.declared.answer.Stop.TheVariants as stops
use Rattle.sierra_tool.specs.declared.command.Check.{Check}
use Rattle.sierra_tool.specs.declared.command.Command.{Command}
use Rattle.sierra_tool.specs.declared.command.Command.TheVariants as commands
use Rattle.sierra_tool.specs.declared.command.Source.TheVariants as sources
use Rattle.sierra_tool.specs.declared.work.Start.{Start}
use Rattle.sierra_tool.specs.Causes.{Reading, Holds, IsRunFile, CanRun, Cause}
use Rattle.sierra_tool.specs.Stages.{IsRefused, NoRun, ReadsSource, IsCaused, Starts, Works}
use Rattle.sierra_tool.proofs.Causes.{judged_answer}
use Rattle.sierra_tool.proofs.Stages.{unfit_cause, put, Progress, goes_on, stops_there, program_read_present, uncounted}

abbrev pub TakesRun : Reading → Run → Type 0
TakesRun given run = Holds sources.Run given (λ bytes. IsRunFile bytes run)

module _ (before middle now : FilesView) (check : Check) (start : Start) (part : Starts before middle (Some (commands.Check check)) (Ok start)) where
  abbrev command : Command
  command = commands.Check check

  progress : Progress before middle command part.readings
  progress = record { keeps = part.keeps; given = part.given }

  -- it stops at the run file, ..
  pub stops_at_run : (stop : Stop) → ReadsSource middle now check.run.now TakesRun (IsRefused sources.Run NoRun) (Err stop) → Works before now (Some command) (Err stop)
  stops_at_run stop run_part =
      let readings = put sources.Run run_part.reading part.readings in
      let can : CanRun readings start.program start.input = record { program_read = part.outcome.program_read; input_read = part.outcome.input_read; gas = part.outcome.gas } in
      let caused : (answer : Answer) → IsRefused sources.Run NoRun run_part.reading answer → Cause (Some command) readings answer = λ answer refused. elim refused [
        | inl unfit ↦ unfit_cause command readings sources.Run answer (refl, start.program, start.input, can) unfit
        | inr held ↦ subst (Cause (Some command) readings) (sym held.3.2) ((refl, start.program, start.input, can), (held.0, held.1, held.2, held.3.1))
      ] in
      stops_there before middle now command part.readings sources.Run check.run.now progress refl TakesRun (IsRefused sources.Run NoRun) (IsCaused before now (Some command)) stop run_part caused
      (λ present. program_read_present before.contents command part.readings start.program part.given refl part.outcome.program_read)

  module _ (run : Run) (run_part : ReadsSource middle now check.run.now TakesRun (IsRefused sources.Run NoRun) (Ok run)) where
    abbrev all_read : Progress before now command (put sources.Run run_part.reading part.readings)
    all_read = goes_on before middle now command part.readings sources.Run check.run.now progress refl TakesRun (IsRefused sources.Run NoRun) (Ok run) run_part

    -- .. or memory runs out at the verdict, ..
    pub runs_out : Works before now (Some command) (Err stops.OutOfMemory)
    runs_out =
        record {
          keeps = all_read.keeps;
          readings = put sources.Run run_part.reading part.readings;
          given = all_read.given;
          outcome = program_read_present before.contents command part.readings start.program part.given refl part.outcome.program_read;
        }

    -- .. or the run is judged
    pub judged : (judgement : Judgement) → IsJudgement start.program start.input run judgement → Works before now (Some command) (Ok (judged_answer judgement))
    judged judgement is =
        record {
          keeps = all_read.keeps;
          readings = put sources.Run run_part.reading part.readings;
          given = all_read.given;
          outcome = by_judgement judgement is;
        }
      where
        can : CanRun (put sources.Run run_part.reading part.readings) start.program start.input
        can = record { program_read = part.outcome.program_read; input_read = part.outcome.input_read; gas = part.outcome.gas }

        by_judgement : (judgement : Judgement) → IsJudgement start.program start.input run judgement → IsCaused before now (Some command) (put sources.Run run_part.reading part.readings) (judged_answer judgement)
        by_judgement (judgements.Accepted verdict) is = ((refl, start.program, start.input, run, can, run_part.outcome, is.0, is.1), uncounted before now (answers.Judged verdict) (λ source e. cc) (λ source e. cc))
        by_judgement (judgements.Rejected fault) is = ((refl, start.program, start.input, run, can, run_part.outcome, is), uncounted before now (answers.RunRejected fault) (λ source e. cc) (λ source e. cc))
