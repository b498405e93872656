use Rattle.std.proofs.Common.{◌≡◌, map, drop}
use Rattle.type_table.specs.View.{trees_of}
use Rattle.value_trees.specs.Meant.{meant}
use Rattle.typed_values.specs.Behind.{behind_lines}
use Rattle.typed_values.specs.Inputs.{most_elements}
use Rattle.typed_values.specs.Reading.{lines_at}
use Rattle.typed_values.proofs.reading.lines.Given as goal

-- what was read, and what is read of what is left
abbrev pub invariant-loop-id : goal.invariant-loop-id
invariant-loop-id l =
    behind_lines (map meant l.values.items) (lines_at most_elements (trees_of l.types (drop l.id-index l.ids)) l.rest.now) ≡ lines_at most_elements (trees_of l.types l.ids) l.fn.rest.now
