-- Types of a table are small.
use Rattle.std.proofs.Common.{◌<◌, ◌≤◌, ◌^◌, ℕ, length}
use Rattle.type_trees.specs.Ty.{size}
use Rattle.type_table.specs.View.{TypesView, IsTable, tree_of}
use Rattle.type_table.proofs.DecidedLists.{at_below}

pub size_few : (types : TypesView) → IsTable types → (i : ℕ) → i < length types.rows → size (tree_of types i) ≤ 2 ^ 14
size_few types kept i below =
    let row = at_below types.rows i below in
    (kept.rows_right i row.0 row.1).few_cells
