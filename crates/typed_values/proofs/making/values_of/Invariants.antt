use Rattle.std.proofs.Common.{◌≡◌, ◌++◌, map}
use Rattle.std.specs.Vec.Iter.{into_iter_items}
use Rattle.value_trees.specs.Meant.{meant}
use Rattle.typed_values.proofs.making.values_of.Given as goal

abbrev pub invariant-loop-value : goal.invariant-loop-value
invariant-loop-value l = map meant l.values.items ++ map (λ p. meant p.1) (into_iter_items l.value-iterator) ≡ map (λ p. meant p.1) l.fn.pairs.items
