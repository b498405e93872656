use Rattle.std.proofs.Common.{Some, refl}
use Rattle.sierra_tool.specs.Stages.{Works}
use Rattle.sierra_tool.specs.declared.command.Command.TheVariants as commands
use Rattle.sierra_tool.proofs.Planning.{stops_at_checks, has_plan}
use Rattle.sierra_tool.proofs.Stages.{passed_on}
use Rattle.sierra_tool.proofs.Trees.{stops_at_tree}
use Rattle.sierra_tool.proofs.command.Gas.answer.Goals as goal

-- the text is refused, ..
pub returns-in_err-tree : goal.returns-in_err-tree
returns-in_err-tree g c =
    let files = g.F.Files.view in
    passed_on (Works (files c.args.files.now) (files c.read_tree.new.files) (Some (commands.Gas c.args.self.now))) c.in_err-tree.field-0.0 c.from_residual.result c.from_residual.ensures.1
    (stops_at_tree (files c.args.files.now) (files c.read_tree.new.files) (commands.Gas c.args.self.now) c.args.self.now.program.now refl c.in_err-tree.field-0.0 c.in_err-tree.ensures)

-- .. or its program, ..
pub returns-in_err-checked : goal.returns-in_err-checked
returns-in_err-checked g c =
    let files = g.F.Files.view in
    passed_on (Works (files c.args.files.now) (files c.read_tree.new.files) (Some (commands.Gas c.args.self.now))) c.in_err-checked.field-0.0 c.from_residual-in_err-checked.result c.from_residual-in_err-checked.ensures.1
    (stops_at_checks (files c.args.files.now) (files c.read_tree.new.files) c.args.self.now c.in_ok-tree.tree c.in_ok-tree.ensures c.in_err-checked.field-0.0 c.in_err-checked.ensures)

-- .. or it has a plan
pub returns : goal.returns
returns g c =
    let files = g.F.Files.view in
    has_plan (files c.args.files.now) (files c.read_tree.new.files) c.args.self.now c.in_ok-tree.tree c.in_ok-tree.ensures c.in_ok-checked.checked c.in_ok-checked.ensures
