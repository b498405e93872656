use Rattle.std.proofs.Common.{Some, refl, ◌∙◌, ap}
use Rattle.sierra_tool.specs.Stages.{Works}
use Rattle.sierra_tool.specs.declared.answer.Stop.TheVariants as stops
use Rattle.sierra_tool.specs.declared.command.Command.TheVariants as commands
use Rattle.sierra_tool.proofs.Showing.{laid_out}
use Rattle.sierra_tool.proofs.Stages.{passed_on}
use Rattle.sierra_tool.proofs.Trees.{stops_at_tree, no_room_behind}
use Rattle.sierra_tool.proofs.command.Show.answer.Goals as goal

-- the text is refused, ..
pub returns-in_err-tree : goal.returns-in_err-tree
returns-in_err-tree g c =
    let files = g.F.Files.view in
    passed_on (Works (files c.args.files.now) (files c.read_tree.new.files) (Some (commands.Show c.args.self.now))) c.in_err-tree.field-0.0 c.from_residual.result c.from_residual.ensures.1
    (stops_at_tree (files c.args.files.now) (files c.read_tree.new.files) (commands.Show c.args.self.now) c.args.self.now.program.now refl c.in_err-tree.field-0.0 c.in_err-tree.ensures)

-- .. or there is no memory for its layout, ..
pub returns-in_err-text : goal.returns-in_err-text
returns-in_err-text g c =
    let files = g.F.Files.view in
    passed_on (Works (files c.args.files.now) (files c.read_tree.new.files) (Some (commands.Show c.args.self.now))) stops.OutOfMemory c.from_residual-in_err-text.result c.from_residual-in_err-text.ensures.1
    (no_room_behind (files c.args.files.now) (files c.read_tree.new.files) (commands.Show c.args.self.now) c.args.self.now.program.now refl c.in_ok-tree.tree c.in_ok-tree.ensures)

-- .. or it is laid out
pub returns : goal.returns
returns g c =
    let files = g.F.Files.view in
    laid_out (files c.args.files.now) (files c.read_tree.new.files) c.args.self.now c.in_ok-tree.tree c.in_ok-tree.ensures c.new.result (c.new.ensures ∙ ap (λ bytes. bytes.items) c.into_bytes.ensures.value ∙ c.in_ok-text.ensures.printed)
