use Rattle.std.proofs.Common.{◌≡◌, ℕ, List, Option, Some, subst}
use Rattle.sierra_tool.specs.Stages.{Works, ReadsAccepted}
use Rattle.sierra_tool.specs.declared.command.Command.TheVariants as commands
use Rattle.sierra_tool.proofs.Evaluating.{with_own_name, stops_at_input, evaluates}
use Rattle.sierra_tool.proofs.Stages.{passed_on}
use Rattle.sierra_tool.proofs.command.Evaluate.answer_for.Goals as goal

-- the input is refused, ..
pub returns-in_err-input : goal.returns-in_err-input
returns-in_err-input g c = λ before name is read.
    let middle = g.F.Files.view c.args.files.now in
    let now = g.F.Files.view c.read_given.new.files in
    let first = with_own_name before middle c.args.self.now c.args.accepted.now name is read in
    passed_on (Works before now (Some (commands.Eval c.args.self.now))) c.in_err-input.field-0.0 c.from_residual.result c.from_residual.ensures.1
    (stops_at_input before middle c.args.self.now now c.args.accepted.now first c.in_err-input.field-0.0 c.in_err-input.ensures)

-- .. or it fits main, ..
pub outcome_of-requires : goal.outcome_of-requires
outcome_of-requires g c = c.in_ok-input.ensures.outcome.3.0

-- .. and the program is evaluated
pub returns : goal.returns
returns g c = λ before name is read.
    let middle = g.F.Files.view c.args.files.now in
    let now = g.F.Files.view c.read_given.new.files in
    let first = with_own_name before middle c.args.self.now c.args.accepted.now name is read in
    evaluates before middle c.args.self.now now c.args.accepted.now first c.in_ok-input.input c.in_ok-input.ensures c.outcome_of.result c.outcome_of.ensures
