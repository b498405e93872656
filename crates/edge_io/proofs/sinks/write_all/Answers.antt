use Rattle.std.proofs.Common.{arith}
use Rattle.edge_io.proofs.Appending.{Appends-take-more, le_length-of_rest}
use Rattle.edge_io.proofs.sinks.write_all.Goals as goal

pub loop-done-preserved : goal.loop-done-preserved
loop-done-preserved g c = (
  le_length-of_rest _ _ _ c.loop-done.invariant.0 c.in_ok-taken.ensures.within,
  record {
    appended = Appends-take-more _ _ _ _ _ _ c.loop-done.invariant.1.appended c.in_ok-taken.ensures.writes.appended;
    kept = omega (arith, c.in_ok-taken.ensures.writes.kept, c.loop-done.invariant.1.kept);
  },
)
