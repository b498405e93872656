use Rattle.std.proofs.Common.{◌≡◌, ℕ, ◌+◌, ◌*◌, drop, true}
use Rattle.type_table.specs.View.{tree_of, trees_of, joined}
use Rattle.type_trees.specs.Ty.{depth, greatest_depth}
use Rattle.typed_values.specs.Inputs.{most_elements}
use Rattle.typed_values.specs.Skimming.{skim_at, skim_members, skim_elements}
use Rattle.typed_values.proofs.skimming.+skim.Given as goal

-- what is read of what is left
abbrev pub invariant-skim_members-loop-id : goal.invariant-skim_members-loop-id
invariant-skim_members-loop-id l =
    skim_members most_elements l.is_first (joined (trees_of l.types (drop l.id-index l.ids))) l.rest.now
    ≡ skim_members most_elements true (joined (trees_of l.types l.ids)) l.fn.rest.now

abbrev pub invariant-skim_elements-loop-room : goal.invariant-skim_elements-loop-room
invariant-skim_elements-loop-room l =
    skim_elements (skim_at most_elements (tree_of l.types l.item.0)) l.start l.room l.is_first l.rest.now
    ≡ skim_elements (skim_at most_elements (tree_of l.types l.item.0)) l.start (most_elements (tree_of l.types l.item.0)) true l.fn.rest.now

abbrev pub decreases-skim_elements-loop-room : goal.decreases-skim_elements-loop-room
decreases-skim_elements-loop-room l = l.room

-- the depth of the types that are read, and the order of calls within one
abbrev pub decreases-skim : goal.decreases-skim
decreases-skim a = 4 * depth (tree_of a.types.now a.id.0)

abbrev pub decreases-skim_struct : goal.decreases-skim_struct
decreases-skim_struct a = 4 * greatest_depth (joined (trees_of a.types.now a.ids.now)) + 3

abbrev pub decreases-skim_members : goal.decreases-skim_members
decreases-skim_members a = 4 * greatest_depth (joined (trees_of a.types.now a.ids.now)) + 2

abbrev pub decreases-skim_member : goal.decreases-skim_member
decreases-skim_member a = 4 * depth (tree_of a.types.now a.id.0) + 1

abbrev pub decreases-skim_variant : goal.decreases-skim_variant
decreases-skim_variant a = 4 * greatest_depth (joined (trees_of a.types.now a.ids.now)) + 3

abbrev pub decreases-skim_array : goal.decreases-skim_array
decreases-skim_array a = 4 * depth (tree_of a.types.now a.item.0) + 3

abbrev pub decreases-skim_elements : goal.decreases-skim_elements
decreases-skim_elements a = 4 * depth (tree_of a.types.now a.item.0) + 2

abbrev pub decreases-skim_element : goal.decreases-skim_element
decreases-skim_element a = 4 * depth (tree_of a.types.now a.item.0) + 1
