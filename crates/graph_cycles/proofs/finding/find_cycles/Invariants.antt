use Rattle.std.proofs.Common.{◌≡◌, ◌≢◌, ℕ, ◌<◌, length}
use Rattle.graph_cycles.specs.declared.search.Mark.TheVariants.{Unseen}
use Rattle.graph_cycles.specs.Kept.{IsSearch}
use Rattle.graph_cycles.specs.Searching.{state_of, mark_of}
use Rattle.graph_cycles.proofs.finding.find_cycles.Given as goal

abbrev pub invariant-loop-root : goal.invariant-loop-root
invariant-loop-root l = record {
  kept : IsSearch l.graph (state_of l.search);
  between : length l.search.frames.items ≡ 0;
  met : (v : ℕ) → v < l.root → mark_of (state_of l.search) v ≢ Unseen;
}
