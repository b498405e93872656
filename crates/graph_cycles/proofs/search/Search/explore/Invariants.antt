use Rattle.std.proofs.Common.{◌≢◌}
use Rattle.graph_cycles.specs.declared.search.Mark.TheVariants.{Unseen}
use Rattle.graph_cycles.specs.Kept.{GoesOn, work}
use Rattle.graph_cycles.specs.Searching.{state_of, mark_of}
use Rattle.graph_cycles.proofs.search.Search.explore.Given as goal

abbrev pub invariant-loop-frame : goal.invariant-loop-frame
invariant-loop-frame l = GoesOn l.graph (state_of l.fn.self) (state_of l.self) × (mark_of (state_of l.self) l.root ≢ Unseen)

abbrev pub decreases-loop-frame : goal.decreases-loop-frame
decreases-loop-frame l = work l.graph (state_of l.self)
