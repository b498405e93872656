use Rattle.std.proofs.Common.{◌≡◌, length, eqb, count_by, drop}
use Rattle.linear_check.specs.Statements.{targets_of}
use Rattle.linear_check.proofs.Counts.{Remaining}
use Rattle.linear_check.proofs.predecessors.count_branches.Given as goal

abbrev pub invariant-loop-branch : goal.invariant-loop-branch
invariant-loop-branch l = Remaining l.initial.counts.items l.counts.items (λ t. count_by (λ u. eqb u t) (targets_of l.statement (drop l.branch-index l.branches))) (λ t. count_by (λ u. eqb u t) (targets_of l.statement l.branches)) × (length l.counts.items ≡ length l.initial.counts.items)
