use Rattle.std.proofs.Common.{◌≡◌, ℕ, ◌<◌, false, get_or}
use Rattle.std.specs.Prelude.{not}
use Rattle.type_trees.specs.Ty.{range_check}
use Rattle.type_table.specs.View.{trees_of}
use Rattle.entry_check.specs.Entry.{is_entry_type}
use Rattle.entry_check.proofs.entry.first_other.Given as goal

-- the first types are those of an entry
abbrev pub invariant-loop-i : goal.invariant-loop-i
invariant-loop-i l = (k : ℕ) → k < l.i → not (is_entry_type (get_or (trees_of l.types l.list) k range_check)) ≡ false
