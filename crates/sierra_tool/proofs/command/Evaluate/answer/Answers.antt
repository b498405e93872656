use Rattle.std.proofs.Common.{Some, refl}
use Rattle.sierra_tool.specs.Stages.{Works}
use Rattle.sierra_tool.specs.declared.command.Command.TheVariants as commands
use Rattle.sierra_tool.proofs.Evaluating.{stops_at_program}
use Rattle.sierra_tool.proofs.Stages.{passed_on}
use Rattle.sierra_tool.proofs.command.Evaluate.answer.Goals as goal

-- the program is refused, ..
pub returns-in_err-accepted : goal.returns-in_err-accepted
returns-in_err-accepted g c =
    let files = g.F.Files.view in
    passed_on (Works (files c.args.files.now) (files c.read_accepted.new.files) (Some (commands.Eval c.args.self.now))) c.in_err-accepted.field-0.0 c.from_residual.result c.from_residual.ensures.1
    (stops_at_program (files c.args.files.now) (files c.read_accepted.new.files) c.args.self.now c.in_err-accepted.field-0.0 c.in_err-accepted.ensures)

-- .. or what is behind it is done
pub returns : goal.returns
returns g c = c.answer_for.ensures (g.F.Files.view c.args.files.now) c.args.self.now.program.now refl c.in_ok-accepted.ensures
