use Rattle.std.proofs.Common.{refl}
use Rattle.type_trees.specs.Ty.{box, snap, snapshot, array}
use Rattle.type_table.specs.Shapes.{access}
use Rattle.type_table.specs.View.{tree_of}
use Rattle.libfunc_registry.proofs.Finds.{finds_whole, finds_no_whole}
use Rattle.libfunc_registry.proofs.finding.snapshot_of_array.Goals as goal

pub returns-in_err-part : goal.returns-in_err-part
returns-in_err-part c =
    let part = array (tree_of c.args.types.now c.args.t.0) in
    finds_no_whole c.args.types.now c.keeps.ensures (snapshot part) part refl c.find_shape.result _ (c.in_err-part.was) c.from_residual.ensures c.find_shape.ensures

pub returns : goal.returns
returns c =
    finds_whole c.args.types.now snapshot (array (tree_of c.args.types.now c.args.t.0)) c.find_shape.result c.in_ok-part.part _ (c.in_ok-part.was) c.find_shape.ensures c.find_shape-2.ensures
