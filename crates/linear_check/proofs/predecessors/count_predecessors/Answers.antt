use Rattle.std.proofs.Common.{length, count_by, eqb, ap, ◌∙◌, arith}
use Rattle.std.proofs.Math.ListN.{length-replicate}
use Rattle.sierra_types.specs.declared.program.Function.{Function}
use Rattle.linear_check.specs.Counting.{CountsMore}
use Rattle.linear_check.specs.Statements.{branches_to}
use Rattle.linear_check.proofs.Counts.{predecessors_counted}
use Rattle.linear_check.proofs.predecessors.count_predecessors.Goals as goal

pub returns : goal.returns
returns c =
    let zeros = c.in_ok-counts.ensures.items_if_clones_equal (λ y is. is) in
    let size = ap length c.items.ensures in
    let first : CountsMore c.in_ok-counts.counts.items c.count_statements.new.counts.items (λ t. branches_to t 0 c.args.program.now.statements) = rw c.items-2.ensures at c.count_statements.ensures.counted in
    let second : CountsMore c.count_statements.new.counts.items c.count_entries.new.counts.items (λ t. count_by (λ (f : Function). eqb f.entry t) c.args.program.now.functions) = rw c.items-3.ensures at c.count_entries.ensures.counted in (
      c.count_entries.ensures.long ∙ c.count_statements.ensures.long ∙ ap length zeros ∙ length-replicate (length c.items.result.now) 0 ∙ size,
      (λ t lt. predecessors_counted c.args.program.now (length c.items.result.now) t c.in_ok-counts.counts.items c.count_statements.new.counts.items c.count_entries.new.counts.items zeros (omega (arith, size)) first second),
    )
