use Rattle.std.proofs.Common.{◌≡◌, ◌++◌, map}
use Rattle.cell_terms.specs.Resolving.{resolve}
use Rattle.cost_table.specs.Terms.{run}
use Rattle.cost_table.proofs.expressions.push_run.Given as goal

abbrev pub invariant-loop-k : goal.invariant-loop-k
invariant-loop-k l = l.cells.items ≡ l.initial.cells.items ++ map (resolve l.by l.args) (run l.first l.k)
