use Rattle.std.proofs.Common.{◌≤◌, length, ap, arith}
use Rattle.ap_refs.proofs.Lists.{rises_named}
use Rattle.ap_refs.proofs.moves.lower_each.Goals as goal

pub from_rising-requires : goal.from_rising-requires
from_rising-requires c =
    rises_named c.args.by c.args.held.now c.loop-pair.pairs.items c.loop-pair.pair-index c.loop-pair.invariant
    (omega (arith, c.loop-pair-test.false, ap length c.items-items.ensures.items)) c.items-items.ensures.rising
