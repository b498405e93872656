use Rattle.ap_refs.proofs.Lists.{argument_cells_more}
use Rattle.ap_refs.proofs.moves.argument_cells.Goals as goal

pub loop-k-preserved : goal.loop-k-preserved
loop-k-preserved c = argument_cells_more c.args.count c.loop-k.k c.loop-k.cells.items c.keep.new.list.items c.argument_cell.result c.loop-k.invariant c.in_ok-keep.ensures c.argument_cell.ensures
