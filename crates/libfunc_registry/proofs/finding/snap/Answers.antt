use Rattle.std.proofs.Common.{sym, ◌∙◌, ap}
use Rattle.type_table.specs.View.{tree_of}
use Rattle.libfunc_registry.proofs.Finds.{finds_self, finds_same, snap-self, snap-other}
use Rattle.libfunc_registry.proofs.finding.snap.Goals as goal

pub returns-then-info : goal.returns-then-info
returns-then-info c =
    let types = c.args.types.now in
    finds_same types _ _ _ (snap-self (tree_of types c.args.t.0) (sym (ap (λ i. i.dup) c.info.ensures) ∙ c.if-info.true)) (finds_self types c.keeps.ensures c.args.t c.requires)

pub returns-else-info : goal.returns-else-info
returns-else-info c =
    let types = c.args.types.now in
    finds_same types _ _ _ (snap-other (tree_of types c.args.t.0) (sym (ap (λ i. i.dup) c.info.ensures) ∙ c.if-info.false)) c.find_shape.ensures
