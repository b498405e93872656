use Rattle.graph_cycles.specs.Searching.{MarksDone}
use Rattle.graph_cycles.proofs.search.mark_done.Given as goal

abbrev pub invariant-loop-node : goal.invariant-loop-node
invariant-loop-node l = MarksDone l.node-index l.nodes l.initial.marks l.marks
