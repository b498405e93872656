use Rattle.std.proofs.Common.{length}
use Rattle.least_needs.proofs.Bounds.{below_term}
use Rattle.least_needs.proofs.terms.largest.Goals as goal

pub amount-requires-clause-below : goal.amount-requires-clause-below
amount-requires-clause-below c = below_term (length c.args.needs.now) c.args.terms.now c.loop-term.term-index _ c.requires.below c.loop-term-test.true
