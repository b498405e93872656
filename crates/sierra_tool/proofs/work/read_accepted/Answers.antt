use Rattle.std.proofs.Common.{Ok, sym, subst}
use Rattle.gas_solver.specs.Accepting.{AcceptedView}
use Rattle.sierra_tool.specs.Stages.{ReadsAccepted}
use Rattle.sierra_tool.proofs.Evaluating.{not_tree, not_checked, is_accepted}
use Rattle.sierra_tool.proofs.Stages.{passed_on}
use Rattle.sierra_tool.proofs.work.read_accepted.Goals as goal

-- the text is refused, ..
pub returns-in_err-tree : goal.returns-in_err-tree
returns-in_err-tree g c =
    let files = g.F.Files.view in
    passed_on (ReadsAccepted (files c.args.files.now) (files c.read_tree.new.files) c.args.name.now) c.in_err-tree.field-0.0 c.from_residual.result c.from_residual.ensures.1
    (not_tree (files c.args.files.now) (files c.read_tree.new.files) c.args.name.now c.in_err-tree.field-0.0 c.in_err-tree.ensures)

-- .. or its program, ..
pub returns-in_err-checked : goal.returns-in_err-checked
returns-in_err-checked g c =
    let files = g.F.Files.view in
    passed_on (ReadsAccepted (files c.args.files.now) (files c.read_tree.new.files) c.args.name.now) c.in_err-checked.field-0.0 c.from_residual-in_err-checked.result c.from_residual-in_err-checked.ensures.1
    (not_checked (files c.args.files.now) (files c.read_tree.new.files) c.args.name.now c.in_ok-tree.tree c.in_ok-tree.ensures c.in_err-checked.field-0.0 c.in_err-checked.ensures)

-- .. or it is accepted
pub returns : goal.returns
returns g c =
    let files = g.F.Files.view in
    subst (λ (a : AcceptedView). ReadsAccepted (files c.args.files.now) (files c.read_tree.new.files) c.args.name.now (Ok a)) (sym c.accept.ensures)
    (is_accepted (files c.args.files.now) (files c.read_tree.new.files) c.args.name.now c.in_ok-tree.tree c.in_ok-tree.ensures c.in_ok-checked.checked c.in_ok-checked.ensures)
