use Rattle.std.proofs.Common.{◌≡◌, ◌++◌, map}
use Rattle.std.specs.VecDeque.Iter.{deque_iter_rest}
use Rattle.value_trees.specs.Meant.{meant}
use Rattle.value_trees.proofs.copying.copy_elements.Given as goal

abbrev pub invariant-loop-element : goal.invariant-loop-element
invariant-loop-element l = map meant l.copies.items ++ map meant (deque_iter_rest l.element-iterator) ≡ map meant l.elements.items
