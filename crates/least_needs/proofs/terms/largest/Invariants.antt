use Rattle.std.proofs.Common.{◌≡◌, max, min, get_or, drop}
use Rattle.least_needs.specs.Needs.{limit, largest}
use Rattle.least_needs.proofs.terms.largest.Given as goal

abbrev pub invariant-loop-term : goal.invariant-loop-term
invariant-loop-term l = max l.greatest (min (largest (λ t. get_or l.needs t 0) (drop l.term-index l.terms)) limit) ≡ min (largest (λ t. get_or l.needs t 0) l.terms) limit
