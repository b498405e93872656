use Rattle.std.proofs.Common.{◌≡◌, length, drop}
use Rattle.linear_check.specs.Statements.{branches_to}
use Rattle.linear_check.proofs.Counts.{Remaining}
use Rattle.linear_check.proofs.predecessors.count_statements.Given as goal

abbrev pub invariant-loop-s : goal.invariant-loop-s
invariant-loop-s l = Remaining l.initial.counts.items l.counts.items (λ t. branches_to t l.s (drop l.s l.all)) (λ t. branches_to t 0 l.all) × (length l.counts.items ≡ length l.initial.counts.items)
