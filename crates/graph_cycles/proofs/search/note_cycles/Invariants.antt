use Rattle.graph_cycles.specs.Searching.{NotesCycles}
use Rattle.graph_cycles.proofs.search.note_cycles.Given as goal

abbrev pub invariant-loop-node : goal.invariant-loop-node
invariant-loop-node l = NotesCycles l.graph l.node-index l.nodes l.initial.cyclic l.cyclic
