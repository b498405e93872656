use Rattle.cell_terms.specs.Resolving.{resolve}
use Rattle.cost_table.proofs.Runs.{run_step}
use Rattle.cost_table.proofs.expressions.push_run.Goals as goal

pub loop-k-preserved : goal.loop-k-preserved
loop-k-preserved c =
    run_step (resolve c.args.by c.args.args.now) c.args.first c.loop-k.k c.args.cells.now.items c.loop-k.cells.items _ c.further.result
    c.loop-k.invariant c.in_ok-push_term.ensures c.further.ensures.term
