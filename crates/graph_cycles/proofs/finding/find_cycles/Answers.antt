use Rattle.std.proofs.Common.{arith}
use Rattle.graph_cycles.specs.Searching.{state_of}
use Rattle.graph_cycles.proofs.WholeSearch.{found_cycles, found_order}
use Rattle.graph_cycles.proofs.finding.find_cycles.Goals as goal

pub returns-clause-cyclic : goal.returns-clause-cyclic
returns-clause-cyclic c =
    found_cycles c.args.graph.now (state_of c.loop-root.search) (record { kept = c.loop-root.invariant.kept; between = c.loop-root.invariant.between; met = λ v lt. c.loop-root.invariant.met v (omega arith) })

pub returns-clause-each_once : goal.returns-clause-each_once
returns-clause-each_once c =
    found_order c.args.graph.now (state_of c.loop-root.search) (record { kept = c.loop-root.invariant.kept; between = c.loop-root.invariant.between; met = λ v lt. c.loop-root.invariant.met v (omega arith) })
