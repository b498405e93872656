use Rattle.std.proofs.Common.{◌≡◌, length}
use Rattle.linear_check.specs.Flow.{counts_agree}
use Rattle.linear_check.proofs.steps.counts_agree.Given as goal

abbrev pub decreases-loop-branches : goal.decreases-loop-branches
decreases-loop-branches l = length l.branches

abbrev pub invariant-loop-branches : goal.invariant-loop-branches
invariant-loop-branches l = counts_agree l.fn.branches l.fn.types ≡ counts_agree l.branches l.types
