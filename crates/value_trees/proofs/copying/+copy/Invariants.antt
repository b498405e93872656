use Rattle.std.proofs.Common.{◌≡◌, map, take}
use Rattle.value_trees.specs.Meant.{meant}
use Rattle.value_trees.proofs.copying.+copy.Given as goal

abbrev pub invariant-copy_members-loop-member : goal.invariant-copy_members-loop-member
invariant-copy_members-loop-member l = map meant l.copies.items ≡ map meant (take l.member-index l.member-items)
