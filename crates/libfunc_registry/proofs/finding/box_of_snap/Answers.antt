use Rattle.std.proofs.Common.{refl}
use Rattle.type_trees.specs.Ty.{box, snap, snapshot, array}
use Rattle.type_table.specs.Shapes.{access}
use Rattle.type_table.specs.View.{tree_of}
use Rattle.libfunc_registry.proofs.Finds.{finds_whole, finds_no_whole}
use Rattle.libfunc_registry.proofs.finding.box_of_snap.Goals as goal

pub returns-in_err-part : goal.returns-in_err-part
returns-in_err-part c =
    let part = snap (tree_of c.args.types.now c.args.t.0) in
    finds_no_whole c.args.types.now c.keeps.ensures (box part) part refl c.snap.result _ (c.in_err-part.was) c.from_residual.ensures c.snap.ensures

pub returns : goal.returns
returns c =
    finds_whole c.args.types.now box (snap (tree_of c.args.types.now c.args.t.0)) c.snap.result c.in_ok-part.part _ (c.in_ok-part.was) c.snap.ensures c.find_shape.ensures
