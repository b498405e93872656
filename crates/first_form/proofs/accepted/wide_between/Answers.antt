use Rattle.std.proofs.Common.{arith}
use Rattle.std.specs.FinMap.{get}
use Rattle.first_form.proofs.AcceptedLaws.{narrow_up_to}
use Rattle.first_form.proofs.accepted.wide_between.Goals as goal

pub returns-then-value-ge-RANGE_LIMIT-clause-some : goal.returns-then-value-ge-RANGE_LIMIT-clause-some
returns-then-value-ge-RANGE_LIMIT-clause-some c = let first = c.in-Some.ensures.first in record {
  at_or_above = omega (arith, first.at_or_above, c.loop-from.invariant.at_or_above);
  at_or_below = omega arith;
  is_listed = c.in-Some.ensures.first.is_listed;
  beyond = omega arith;
  narrow_before = narrow_up_to (get c.args.memory.now) c.args.first c.loop-from.from _ c.loop-from.invariant.narrow c.in-Some.ensures.first.none_before;
}
