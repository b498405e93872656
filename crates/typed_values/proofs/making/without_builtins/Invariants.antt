use Rattle.std.proofs.Common.{◌≡◌, ◌++◌, ◌<◌, length, drop}
use Rattle.std.specs.List.{All}
use Rattle.type_table.specs.View.{trees_of}
use Rattle.typed_values.specs.Outcome.{others_of}
use Rattle.typed_values.proofs.making.without_builtins.Given as goal

-- those so far and those of what is left are all
abbrev pub invariant-loop-id : goal.invariant-loop-id
invariant-loop-id l = record {
  trees : trees_of l.types l.kept.items ++ others_of (trees_of l.types (drop l.id-index l.all)) ≡ others_of (trees_of l.types l.all);
  below : All (λ t. t.0 < length l.types.rows) l.kept.items;
}
