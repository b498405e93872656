use Rattle.std.proofs.Common.{eqb, count_by, drop, ◌+◌, ◌∙◌}
use Rattle.linear_check.specs.Statements.{branches_to, leads_of}
use Rattle.linear_check.proofs.Counts.{more_counted, statements_split}
use Rattle.linear_check.proofs.predecessors.count_statements.Goals as goal

pub loop-s-preserved : goal.loop-s-preserved
loop-s-preserved c = (
  more_counted c.args.counts.now.items c.loop-s.counts.items c.count_leads.new.counts.items
      (λ t. branches_to t c.loop-s.s (drop c.loop-s.s c.args.all.now))
      (λ t. count_by (λ u. eqb u t) (leads_of c.loop-s.s c.index-all-s.result))
      (λ t. branches_to t (c.loop-s.s + 1) (drop (c.loop-s.s + 1) c.args.all.now))
      (λ t. branches_to t 0 c.args.all.now)
      c.loop-s.invariant.0 c.count_leads.ensures.counted
      (statements_split c.args.all.now c.loop-s.s c.index-all-s.result c.loop-s-test.true c.index-all-s.is),
  c.count_leads.ensures.long ∙ c.loop-s.invariant.1,
)
