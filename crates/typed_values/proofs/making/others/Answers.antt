use Rattle.std.proofs.Common.{map, drop}
use Rattle.type_table.specs.View.{trees_of}
use Rattle.value_trees.specs.Meant.{meant}
use Rattle.typed_values.specs.Making.{pairs_meant}
use Rattle.typed_values.specs.Outcome.{others}
use Rattle.typed_values.proofs.Made.{others_end}
use Rattle.typed_values.proofs.making.others.Goals as goal

-- there is no further result
pub returns-in-None-clause-pairs : goal.returns-in-None-clause-pairs
returns-in-None-clause-pairs c =
    others_end (trees_of c.args.types.now (drop c.loop-id.id-index c.args.result_types.now)) (pairs_meant c.args.types.now c.loop-id.pairs.items)
    (others (trees_of c.args.types.now c.args.result_types.now) (map meant c.args.results.items)) (map meant c.loop-id.left.items)
    c.in-None.ensures.0 c.loop-id.invariant.pairs
