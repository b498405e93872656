use Rattle.std.proofs.Common.{◌≡◌, map, drop}
use Rattle.value_trees.specs.Meant.{meant}
use Rattle.typed_values.specs.Outcome.{left_of}
use Rattle.typed_values.proofs.making.left_of.Given as goal

abbrev pub invariant-loop-value : goal.invariant-loop-value
invariant-loop-value l = left_of l.counter (map meant (drop l.value-index l.value-items)) ≡ left_of l.counter (map meant l.results.items)
