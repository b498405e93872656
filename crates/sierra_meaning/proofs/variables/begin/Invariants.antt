use Rattle.std.proofs.Common.{◌≡◌, [], Ok, drop, map, reverse}
use Rattle.std.specs.List.{zip}
use Rattle.held_list.specs.Held.{Held}
use Rattle.held_list.specs.Editing.{add_all}
use Rattle.value_trees.specs.declared.value.Value.{Value}
use Rattle.sierra_meaning.proofs.variables.begin.Given as goal

abbrev pub invariant-loop-param : goal.invariant-loop-param
invariant-loop-param l = (more : Held Value) → add_all (zip (map (λ x. x.0) l.fn.params) l.fn.values.items) [] ≡ Ok more → add_all (zip (map (λ x. x.0) (drop l.param-index l.params)) (reverse l.values.items)) l.env ≡ Ok more
