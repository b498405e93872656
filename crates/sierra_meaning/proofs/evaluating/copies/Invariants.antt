use Rattle.std.proofs.Common.{◌≡◌, map, take}
use Rattle.value_trees.specs.Meant.{meant}
use Rattle.sierra_meaning.proofs.evaluating.copies.Given as goal

abbrev pub invariant-loop-value : goal.invariant-loop-value
invariant-loop-value l = map meant l.copies.items ≡ map meant (take l.value-index l.value-items)
