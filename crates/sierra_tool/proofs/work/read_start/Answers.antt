use Rattle.std.proofs.Common.{Some}
use Rattle.sierra_text.proofs.PrintedTexts.{names_ascii}
use Rattle.sierra_tool.specs.Stages.{Starts}
use Rattle.sierra_tool.specs.declared.command.Source.TheVariants as sources
use Rattle.sierra_tool.proofs.FormStages.{not_accepted}
use Rattle.sierra_tool.proofs.Stages.{passed_on, read_name}
use Rattle.sierra_tool.proofs.Starting.{stops_at_program}
use Rattle.sierra_tool.proofs.work.read_start.Goals as goal

-- the program is refused, ..
pub returns-in_err-accepted : goal.returns-in_err-accepted
returns-in_err-accepted g c =
    let files = g.F.Files.view in
    let command = c.args.command.now in
    passed_on (Starts (files c.args.files.now) (files c.read_accepted.new.files) (Some command)) c.in_err-accepted.field-0.0 c.from_residual.result c.from_residual.ensures.1
    (stops_at_program (files c.args.files.now) (files c.read_accepted.new.files) command c.file.result.now (read_name command sources.Program c.file.result.now c.requires.program c.file.ensures)
    c.in_err-accepted.field-0.0 c.requires.program c.requires.input c.requires.runs
    (not_accepted (files c.args.files.now) (files c.read_accepted.new.files) c.file.result.now c.in_err-accepted.field-0.0 c.in_err-accepted.ensures))

-- .. or its names can be printed, ..
pub start_of-requires-clause-names : goal.start_of-requires-clause-names
start_of-requires-clause-names g c =
    let held = c.in_ok-accepted.ensures.outcome in
    let accepted = held.3 in
    let checked = accepted.0 in
    let tree = checked.0 in
    names_ascii c.in_ok-accepted.accepted.program held.0 tree.0

-- .. and what is behind it is done
pub returns : goal.returns
returns g c =
    let files = g.F.Files.view in
    let command = c.args.command.now in
    c.start_of.ensures (files c.args.files.now) c.file.result.now (read_name command sources.Program c.file.result.now c.requires.program c.file.ensures) c.in_ok-accepted.ensures
