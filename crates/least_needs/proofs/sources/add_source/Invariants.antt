use Rattle.std.proofs.Common.{◌≡◌, drop}
use Rattle.least_needs.specs.Distances.{lists_of, with_source}
use Rattle.least_needs.proofs.sources.add_source.Given as goal

abbrev pub invariant-loop-target : goal.invariant-loop-target
invariant-loop-target l = with_source (lists_of l.lists) l.source (drop l.target-index l.targets) ≡ with_source (lists_of l.initial.lists) l.source l.targets
