use Rattle.std.proofs.Common.{Some, subst}
use Rattle.first_form.specs.Judgements.{IsJudgement}
use Rattle.first_form.specs.declared.judgement.Judgement.TheVariants as judgements
use Rattle.sierra_tool.specs.Causes.{CanRun}
use Rattle.sierra_tool.specs.Stages.{IsCaused, Works}
use Rattle.sierra_tool.specs.declared.answer.Stop.TheVariants as stops
use Rattle.sierra_tool.specs.declared.command.Command.TheVariants as commands
use Rattle.sierra_tool.proofs.Checking.{stops_at_run, runs_out, judged}
use Rattle.sierra_tool.proofs.Stages.{passed_on, stopped}
use Rattle.sierra_tool.proofs.command.Check.answer.Goals as goal

-- what the run starts from is refused, ..
pub returns-in_err-start : goal.returns-in_err-start
returns-in_err-start g c =
    let files = g.F.Files.view in
    let command = commands.Check c.args.self.now in
    let before = files c.args.files.now in
    let now = files c.read_start.new.files in
    passed_on (Works before now (Some command)) c.in_err-start.field-0.0 c.from_residual.result c.from_residual.ensures.1
    (stopped before now command (λ readings start. CanRun readings start.program start.input) (IsCaused before now (Some command)) c.in_err-start.field-0.0 c.in_err-start.ensures)

-- .. or the run file, ..
pub returns-in_err-run : goal.returns-in_err-run
returns-in_err-run g c =
    let files = g.F.Files.view in
    let command = commands.Check c.args.self.now in
    passed_on (Works (files c.args.files.now) (files c.run.new.files) (Some command)) c.in_err-run.field-0.0 c.from_residual-in_err-run.result c.from_residual-in_err-run.ensures.1
    (stops_at_run (files c.args.files.now) (files c.read_start.new.files) (files c.run.new.files) c.args.self.now c.in_ok-start.start c.in_ok-start.ensures c.in_err-run.field-0.0 c.in_err-run.ensures)

-- .. or there is no memory for the verdict, ..
pub returns-in_err-verdict : goal.returns-in_err-verdict
returns-in_err-verdict g c =
    let files = g.F.Files.view in
    let command = commands.Check c.args.self.now in
    passed_on (Works (files c.args.files.now) (files c.run.new.files) (Some command)) stops.OutOfMemory c.from_residual-in_err-verdict.result c.from_residual-in_err-verdict.ensures.1
    (runs_out (files c.args.files.now) (files c.read_start.new.files) (files c.run.new.files) c.args.self.now c.in_ok-start.start c.in_ok-start.ensures c.in_ok-run.run' c.in_ok-run.ensures)

-- .. or the run is accepted or rejected
pub returns-in-Accepted : goal.returns-in-Accepted
returns-in-Accepted g c =
    let files = g.F.Files.view in
    judged (files c.args.files.now) (files c.read_start.new.files) (files c.run.new.files) c.args.self.now c.in_ok-start.start c.in_ok-start.ensures c.in_ok-run.run' c.in_ok-run.ensures (judgements.Accepted c.in-Accepted.verdict) (subst (IsJudgement c.in_ok-start.start.program c.in_ok-start.start.input c.in_ok-run.run') c.in-Accepted.is c.in_ok-verdict.ensures)

pub returns : goal.returns
returns g c =
    let files = g.F.Files.view in
    judged (files c.args.files.now) (files c.read_start.new.files) (files c.run.new.files) c.args.self.now c.in_ok-start.start c.in_ok-start.ensures c.in_ok-run.run' c.in_ok-run.ensures (judgements.Rejected c.in-Rejected.fault) (subst (IsJudgement c.in_ok-start.start.program c.in_ok-start.start.input c.in_ok-run.run') c.in-Rejected.is c.in_ok-verdict.ensures)
