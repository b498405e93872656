use Rattle.std.proofs.Common.{◌≡◌, ◌++◌, ◌<◌, length, map, drop}
use Rattle.std.specs.List.{All}
use Rattle.type_table.specs.View.{trees_of}
use Rattle.value_trees.specs.Meant.{meant}
use Rattle.value_trees.specs.Val.{vals_of}
use Rattle.cell_forms.specs.Laying.{laid_each}
use Rattle.cell_forms.proofs.laying.+lay.Given as goal

-- what was laid and what is left to lay are the whole
abbrev pub invariant-push_each-loop-value : goal.invariant-push_each-loop-value
invariant-push_each-loop-value l =
    (l.words.items ++ laid_each (vals_of (map meant (drop l.value-index l.values))) (trees_of l.t l.rest)
    ≡ l.fn.words.items ++ laid_each (vals_of (map meant l.values)) (trees_of l.t l.ids))
    × All (λ a. a.0 < length l.t.rows) l.rest
