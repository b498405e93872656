use Rattle.std.proofs.Common.{◌≡◌, ◌++◌, ◌<◌, length, map, drop}
use Rattle.std.specs.List.{All}
use Rattle.type_table.specs.View.{trees_of}
use Rattle.value_trees.specs.Meant.{meant}
use Rattle.typed_values.specs.Making.{pairs_meant}
use Rattle.typed_values.specs.Outcome.{others}
use Rattle.typed_values.proofs.making.others.Given as goal

-- the results so far and those of what is left are all
abbrev pub invariant-loop-id : goal.invariant-loop-id
invariant-loop-id l = record {
  pairs : pairs_meant l.types l.pairs.items ++ others (trees_of l.types (drop l.id-index l.result_types)) (map meant l.left.items)
      ≡ others (trees_of l.types l.result_types) (map meant l.fn.results.items);
  below : All (λ p. p.0.0 < length l.types.rows) l.pairs.items;
}
