use Rattle.std.proofs.Common.{Some, refl}
use Rattle.sierra_tool.specs.Causes.{CanRun}
use Rattle.sierra_tool.specs.Stages.{IsCaused, Works}
use Rattle.sierra_tool.specs.declared.answer.Answer.TheVariants as answers
use Rattle.sierra_tool.specs.declared.answer.Stop.TheVariants as stops
use Rattle.sierra_tool.specs.declared.command.Command.TheVariants as commands
use Rattle.sierra_tool.proofs.Stages.{passed_on, stopped, program_read_present, uncounted}
use Rattle.sierra_tool.proofs.command.Execute.answer.Goals as goal

-- what the run starts from is refused, ..
pub returns-in_err-start : goal.returns-in_err-start
returns-in_err-start g c =
    let files = g.F.Files.view in
    let command = commands.Run c.args.self.now in
    let before = files c.args.files.now in
    let now = files c.read_start.new.files in
    passed_on (Works before now (Some command)) c.in_err-start.field-0.0 c.from_residual.result c.from_residual.ensures.1
    (stopped before now command (λ readings start. CanRun readings start.program start.input) (IsCaused before now (Some command)) c.in_err-start.field-0.0 c.in_err-start.ensures)

-- .. or there is no memory for the run, ..
pub returns-in_err-file : goal.returns-in_err-file
returns-in_err-file g c =
    let files = g.F.Files.view in
    let command = commands.Run c.args.self.now in
    let part = c.in_ok-start.ensures in
    passed_on (Works (files c.args.files.now) (files c.read_start.new.files) (Some command)) stops.OutOfMemory c.from_residual-in_err-file.result c.from_residual-in_err-file.ensures.1
    (record {
      keeps = part.keeps;
      readings = part.readings;
      given = part.given;
      outcome = program_read_present (files c.args.files.now).contents command part.readings c.in_ok-start.start.program part.given refl part.outcome.program_read;
    })

-- .. or the program is run
pub returns : goal.returns
returns g c =
    let files = g.F.Files.view in
    let part = c.in_ok-start.ensures in
    let start = c.in_ok-start.start in
    record {
      keeps = part.keeps;
      readings = part.readings;
      given = part.given;
      outcome = (
        (c.args.self.now, refl, start.program, start.input, part.outcome, rw c.new.ensures c.in_ok-file.ensures),
        uncounted (files c.args.files.now) (files c.read_start.new.files) (answers.Ran c.new.result) (λ source e. cc) (λ source e. cc),
      );
    }
