use Rattle.std.proofs.Common.{◌≡◌, ◌+◌, ◌*◌, map, drop}
use Rattle.type_table.specs.View.{tree_of, trees_of, joined}
use Rattle.type_trees.specs.Ty.{depth, greatest_depth}
use Rattle.value_trees.specs.Meant.{meant}
use Rattle.cell_forms.specs.Showing.{shown_together, behind_shown}
use Rattle.cell_forms.proofs.showing.+show.Given as goal

-- what was shown, and what is shown of the cells that are left
abbrev pub invariant-members_in-loop-id : goal.invariant-members_in-loop-id
invariant-members_in-loop-id l =
    behind_shown (map meant l.members.items) (shown_together (joined (trees_of l.t (drop l.id-index l.ids))) l.rest)
    ≡ shown_together (joined (trees_of l.t l.ids)) l.cells

-- the depth of the types, and the order of calls within one
abbrev pub decreases-value_in : goal.decreases-value_in
decreases-value_in a = 2 * depth (tree_of a.t.now a.ty.0)

abbrev pub decreases-members_in : goal.decreases-members_in
decreases-members_in a = 2 * greatest_depth (joined (trees_of a.t.now a.ids.now)) + 1

abbrev pub decreases-variant_in : goal.decreases-variant_in
decreases-variant_in a = 2 * greatest_depth (joined (trees_of a.t.now a.ids.now)) + 1
