use Rattle.std.proofs.Common.{◌≡◌, ◌++◌, drop}
use Rattle.least_needs.specs.Terms.{all_targets}
use Rattle.least_needs.proofs.terms.push_all_targets.Given as goal

abbrev pub invariant-loop-term : goal.invariant-loop-term
invariant-loop-term l = l.targets.items ++ all_targets (drop l.term-index l.terms) ≡ l.initial.targets.items ++ all_targets l.terms
