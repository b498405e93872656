use Rattle.std.proofs.Common.{◌≡◌, [], length, drop, replicate}
use Rattle.least_needs.specs.Distances.{lists_of, with_sources}
use Rattle.least_needs.proofs.sources.sources_of.Given as goal

abbrev pub invariant-loop-source : goal.invariant-loop-source
invariant-loop-source l = record {
  size : length (lists_of l.lists.items) ≡ length l.graph;
  rest : with_sources (lists_of l.lists.items) l.source (drop l.source l.graph) ≡ with_sources (replicate (length l.graph) []) 0 l.graph;
}
