use Rattle.std.proofs.Common.{◌≡◌, ℕ, ◌+◌, ◌*◌, map, drop, true}
use Rattle.type_table.specs.View.{tree_of, trees_of, joined}
use Rattle.type_trees.specs.Ty.{depth, greatest_depth}
use Rattle.value_trees.specs.Meant.{meant}
use Rattle.value_trees.specs.Val.{vals_of}
use Rattle.typed_values.specs.Inputs.{most_elements}
use Rattle.typed_values.specs.Reading.{value_at, members_at, elements_at}
use Rattle.typed_values.specs.Behind.{behind_values}
use Rattle.typed_values.proofs.reading.+read.Given as goal

-- what was read, and what is read of what is left
abbrev pub invariant-members-loop-id : goal.invariant-members-loop-id
invariant-members-loop-id l =
    behind_values (map meant l.members.items) (members_at most_elements l.is_first (joined (trees_of l.types (drop l.id-index l.ids))) l.rest.now)
    ≡ members_at most_elements true (joined (trees_of l.types l.ids)) l.fn.rest.now

abbrev pub invariant-elements-loop-room : goal.invariant-elements-loop-room
invariant-elements-loop-room l =
    behind_values (map meant l.elements.items) (elements_at (value_at most_elements (tree_of l.types l.item.0)) l.start l.room l.is_first l.rest.now)
    ≡ elements_at (value_at most_elements (tree_of l.types l.item.0)) l.start (most_elements (tree_of l.types l.item.0)) true l.fn.rest.now

abbrev pub decreases-elements-loop-room : goal.decreases-elements-loop-room
decreases-elements-loop-room l = l.room

-- the depth of the types that are read, and the order of calls within one
abbrev pub decreases-value : goal.decreases-value
decreases-value a = 5 * depth (tree_of a.types.now a.id.0)

abbrev pub decreases-structure : goal.decreases-structure
decreases-structure a = 5 * greatest_depth (joined (trees_of a.types.now a.ids.now)) + 3

abbrev pub decreases-members : goal.decreases-members
decreases-members a = 5 * greatest_depth (joined (trees_of a.types.now a.ids.now)) + 2

abbrev pub decreases-member : goal.decreases-member
decreases-member a = 5 * depth (tree_of a.types.now a.id.0) + 1

abbrev pub decreases-variant : goal.decreases-variant
decreases-variant a = 5 * greatest_depth (joined (trees_of a.types.now a.ids.now)) + 3

abbrev pub decreases-array : goal.decreases-array
decreases-array a = 5 * depth (tree_of a.types.now a.item.0) + 4

abbrev pub decreases-elements : goal.decreases-elements
decreases-elements a = 5 * depth (tree_of a.types.now a.item.0) + 2

abbrev pub decreases-element : goal.decreases-element
decreases-element a = 5 * depth (tree_of a.types.now a.item.0) + 1

abbrev pub decreases-array_within : goal.decreases-array_within
decreases-array_within a = 5 * depth (tree_of a.types.now a.item.0) + 3
