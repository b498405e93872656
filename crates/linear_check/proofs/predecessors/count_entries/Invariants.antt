use Rattle.std.proofs.Common.{◌≡◌, length, eqb, count_by, drop}
use Rattle.linear_check.proofs.Counts.{Remaining}
use Rattle.linear_check.proofs.predecessors.count_entries.Given as goal

abbrev pub invariant-loop-function : goal.invariant-loop-function
invariant-loop-function l = Remaining l.initial.counts.items l.counts.items (λ t. count_by (λ f. eqb f.entry t) (drop l.function-index l.functions)) (λ t. count_by (λ f. eqb f.entry t) l.functions) × (length l.counts.items ≡ length l.initial.counts.items)
