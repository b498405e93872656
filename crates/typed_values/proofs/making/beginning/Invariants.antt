use Rattle.std.proofs.Common.{◌≡◌, ◌++◌, map, drop}
use Rattle.type_table.specs.View.{trees_of}
use Rattle.value_trees.specs.Meant.{meant}
use Rattle.typed_values.specs.Outcome.{beginning}
use Rattle.typed_values.proofs.making.beginning.Given as goal

-- the values so far and those of what is left are the whole
abbrev pub invariant-loop-param : goal.invariant-loop-param
invariant-loop-param l =
    map meant l.values.items ++ beginning l.counter (trees_of l.types (drop l.param-index l.params)) (map meant l.left.items)
    ≡ beginning l.counter (trees_of l.types l.params) (map meant l.fn.given.items)
