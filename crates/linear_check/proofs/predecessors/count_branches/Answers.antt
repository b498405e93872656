use Rattle.std.proofs.Common.{eqb, count_by, drop, ◌∷◌, [], ◌+◌, ◌∙◌}
use Rattle.linear_check.specs.Statements.{targets_of}
use Rattle.linear_check.proofs.Counts.{more_counted, branches_split}
use Rattle.linear_check.proofs.predecessors.count_branches.Goals as goal

pub loop-branch-preserved : goal.loop-branch-preserved
loop-branch-preserved c = (
  more_counted c.args.counts.now.items c.loop-branch.counts.items c.count.new.counts.items
      (λ t. count_by (λ u. eqb u t) (targets_of c.args.statement (drop c.loop-branch.branch-index c.args.branches.now)))
      (λ t. count_by (λ u. eqb u t) (c.target_of.result ∷ []))
      (λ t. count_by (λ u. eqb u t) (targets_of c.args.statement (drop (c.loop-branch.branch-index + 1) c.args.branches.now)))
      (λ t. count_by (λ u. eqb u t) (targets_of c.args.statement c.args.branches.now))
      c.loop-branch.invariant.0 c.count.ensures.counted
      (branches_split c.args.statement c.args.branches.now c.loop-branch.branch-index c.branch-item.result c.target_of.result c.loop-branch-test.true c.branch-item.is c.target_of.ensures),
  c.count.ensures.long ∙ c.loop-branch.invariant.1,
)
