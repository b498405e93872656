use Rattle.std.proofs.Common.{Some}
use Rattle.typed_values.specs.Shown.{input_meant}
use Rattle.sierra_tool.specs.Stages.{Starts}
use Rattle.sierra_tool.specs.declared.command.Source.TheVariants as sources
use Rattle.sierra_tool.proofs.FormStages.{is_of_form, not_of_form}
use Rattle.sierra_tool.proofs.OneNumber.{has_one_number}
use Rattle.sierra_tool.proofs.Stages.{passed_on, read_name}
use Rattle.sierra_tool.proofs.Starting.{stops_at_program, stops_at_input, starts}
use Rattle.sierra_tool.proofs.work.start_of.Goals as goal

-- the program is of no form, ..
pub returns-in_err-program : goal.returns-in_err-program
returns-in_err-program g c = λ before name is read.
    let middle = g.F.Files.view c.args.files.now in
    let command = c.args.command.now in
    passed_on (Starts before middle (Some command)) c.in_err-program.field-0.0 c.from_residual.result c.from_residual.ensures.1
    (stops_at_program before middle command name is c.in_err-program.field-0.0 c.requires.program c.requires.input c.requires.runs
    (not_of_form before middle name c.args.accepted.now read c.in_err-program.field-0.0 c.in_err-program.ensures))

-- .. or the input is refused, ..
pub returns-in_err-given : goal.returns-in_err-given
returns-in_err-given g c = λ before name is read.
    let middle = g.F.Files.view c.args.files.now in
    let now = g.F.Files.view c.read_given.new.files in
    let command = c.args.command.now in
    passed_on (Starts before now (Some command)) c.in_err-given.field-0.0 c.from_residual-in_err-given.result c.from_residual-in_err-given.ensures.1
    (stops_at_input before middle command name is now c.file.result.now (record { accepted = c.args.accepted.now; program = c.in_ok-program.program })
    (read_name command sources.Input c.file.result.now c.requires.input c.file.ensures)
    (is_of_form before middle name c.args.accepted.now read c.in_ok-program.program c.in_ok-program.ensures)
    c.in_err-given.field-0.0 c.requires.program c.requires.runs c.in_err-given.ensures)

-- .. or has one number, ..
pub start_with-requires : goal.start_with-requires
start_with-requires g c =
    let held = c.in_ok-given.ensures.outcome in
    let form = c.in_ok-program.ensures in
    has_one_number c.args.accepted.now held.0 (input_meant c.in_ok-given.given) form.1 held.3

-- .. and the run starts, or has too little gas
pub returns : goal.returns
returns g c = λ before name is read.
    let middle = g.F.Files.view c.args.files.now in
    let now = g.F.Files.view c.read_given.new.files in
    let command = c.args.command.now in
    starts before middle command name is now c.file.result.now (record { accepted = c.args.accepted.now; program = c.in_ok-program.program })
    (read_name command sources.Input c.file.result.now c.requires.input c.file.ensures)
    (is_of_form before middle name c.args.accepted.now read c.in_ok-program.program c.in_ok-program.ensures)
    c.in_ok-given.given c.in_ok-given.ensures c.requires.runs c.start_with.result c.start_with.ensures
