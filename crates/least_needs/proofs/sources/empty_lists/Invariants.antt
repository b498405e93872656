use Rattle.std.proofs.Common.{◌≡◌, [], replicate}
use Rattle.least_needs.specs.Distances.{lists_of}
use Rattle.least_needs.proofs.sources.empty_lists.Given as goal

abbrev pub invariant-loop : goal.invariant-loop
invariant-loop l = lists_of l.lists.items ≡ replicate l.counter []
