use Rattle.std.proofs.Common.{Some}
use Rattle.sierra_tool.specs.Stages.{Works}
use Rattle.sierra_tool.specs.declared.command.Command.TheVariants as commands
use Rattle.sierra_tool.proofs.Assembling.{stops_at_casm, assembled}
use Rattle.sierra_tool.proofs.Stages.{passed_on}
use Rattle.sierra_tool.proofs.command.Assemble.answer.Goals as goal

-- the text is refused, ..
pub returns-in_err-code : goal.returns-in_err-code
returns-in_err-code g c =
    let files = g.F.Files.view in
    passed_on (Works (files c.args.files.now) (files c.code.new.files) (Some (commands.Asm c.args.self.now))) c.in_err-code.field-0.0 c.from_residual.result c.from_residual.ensures.1
    (stops_at_casm (files c.args.files.now) (files c.code.new.files) c.args.self.now c.in_err-code.field-0.0 c.in_err-code.ensures)

-- .. or assembled
pub returns : goal.returns
returns g c =
    let files = g.F.Files.view in
    assembled (files c.args.files.now) (files c.code.new.files) c.args.self.now c.in_ok-code.field-0 c.in_ok-code.ensures
