use Rattle.std.proofs.Common.{eqb, count_by, drop, ◌∷◌, [], ◌+◌, ◌∙◌}
use Rattle.sierra_types.specs.declared.program.Function.{Function}
use Rattle.linear_check.proofs.Counts.{more_counted, entries_split}
use Rattle.linear_check.proofs.predecessors.count_entries.Goals as goal

pub loop-function-preserved : goal.loop-function-preserved
loop-function-preserved c = (
  more_counted c.args.counts.now.items c.loop-function.counts.items c.count.new.counts.items
      (λ t. count_by (λ (f : Function). eqb f.entry t) (drop c.loop-function.function-index c.args.functions.now))
      (λ t. count_by (λ u. eqb u t) (c.function-item.result.entry ∷ []))
      (λ t. count_by (λ (f : Function). eqb f.entry t) (drop (c.loop-function.function-index + 1) c.args.functions.now))
      (λ t. count_by (λ (f : Function). eqb f.entry t) c.args.functions.now)
      c.loop-function.invariant.0 c.count.ensures.counted
      (entries_split c.args.functions.now c.loop-function.function-index c.function-item.result c.loop-function-test.true c.function-item.is),
  c.count.ensures.long ∙ c.loop-function.invariant.1,
)
