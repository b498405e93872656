use Rattle.frag_code.proofs.Tables.{places_step, cells_step}
use Rattle.frag_code.proofs.emission.places.Goals as goal

pub loop-piece-preserved : goal.loop-piece-preserved
loop-piece-preserved c = record {
  so_far = places_step _ _ _ _ _ _ _ _ _ c.loop-piece-test.true c.in_ok-push.ensures.items c.cells-place.ensures.cells c.loop-piece.invariant.so_far;
  left = cells_step _ _ _ _ _ _ _ c.loop-piece-test.true c.cells-place.ensures.cells c.loop-piece.invariant.left;
}
