use Rattle.std.proofs.Common.{◌≡◌, List, Ok, drop}
use Rattle.held_list.specs.Held.{Held}
use Rattle.held_list.specs.Editing.{take_all}
use Rattle.value_trees.specs.declared.value.Value.{Value}
use Rattle.sierra_meaning.proofs.Stepping.{TakesOn}
use Rattle.sierra_meaning.proofs.variables.take_values.Given as goal

abbrev pub invariant-loop-name : goal.invariant-loop-name
invariant-loop-name l = (vs : List Value) (rest : Held Value) → take_all l.fn.names l.fn.env ≡ Ok (vs, rest) → TakesOn (drop l.name-index l.names) l.env l.values.items vs rest
