use Rattle.std.proofs.Common.{◌≡◌, Ok, drop, reverse}
use Rattle.std.specs.List.{zip}
use Rattle.held_list.specs.Held.{Held}
use Rattle.held_list.specs.Editing.{add_all}
use Rattle.value_trees.specs.declared.value.Value.{Value}
use Rattle.sierra_meaning.proofs.variables.add_values.Given as goal

abbrev pub invariant-loop-name : goal.invariant-loop-name
invariant-loop-name l = (more : Held Value) → add_all (zip l.fn.names l.fn.values.items) l.fn.env ≡ Ok more → add_all (zip (drop l.name-index l.names) (reverse l.values.items)) l.env ≡ Ok more
