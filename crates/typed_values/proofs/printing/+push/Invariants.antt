use Rattle.std.proofs.Common.{◌≡◌, ◌++◌, ℕ, List, map, drop}
use Rattle.std.specs.String.{string_bytes}
use Rattle.std.specs.VecDeque.Iter.{deque_iter_rest}
use Rattle.value_trees.specs.Meant.{meant}
use Rattle.value_trees.specs.Val.{vals_of}
use Rattle.typed_values.specs.Texts.{values_text}
use Rattle.typed_values.specs.Listing.{left_text}
use Rattle.typed_values.proofs.printing.+push.Given as goal

-- what was printed and what is left are the whole
abbrev pub invariant-push_elements-loop-element : goal.invariant-push_elements-loop-element
invariant-push_elements-loop-element l =
    string_bytes l.text ++ left_text l.is_first (map meant (deque_iter_rest l.element-iterator))
    ≡ string_bytes l.fn.text ++ values_text (vals_of (map meant l.elements.items))

abbrev pub invariant-push_members-loop-member : goal.invariant-push_members-loop-member
invariant-push_members-loop-member l =
    string_bytes l.text ++ left_text l.is_first (map meant (drop l.member-index l.member-items))
    ≡ string_bytes l.fn.text ++ values_text (vals_of (map meant l.members.items))
