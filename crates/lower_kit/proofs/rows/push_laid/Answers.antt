use Rattle.std.proofs.Common.{ap, arith}
use Rattle.cell_terms.specs.Resolving.{argument}
use Rattle.frag_code.specs.declared.piece.Piece.TheVariants as piece
use Rattle.cost_table.proofs.Fitting.{expr_fits}
use Rattle.lower_kit.specs.Pieces.{laid_piece}
use Rattle.lower_kit.proofs.Named.{argument_close}
use Rattle.lower_kit.proofs.Pieces.{more}
use Rattle.lower_kit.proofs.rows.push_laid.Goals as goal

pub resolve-requires-clause-fits : goal.resolve-requires-clause-fits
resolve-requires-clause-fits c =
    let k = c.loop-k.k in
    let args = c.args.args.now in
    let below = c.loop-k-test.true in
    let few = c.requires.few in
    expr_fits k (argument args k) (omega (arith, below, few)) (argument_close args k c.requires.close)

pub loop-k-preserved : goal.loop-k-preserved
loop-k-preserved c =
    more (laid_piece c.args.args.now) c.loop-k.k c.args.frag.now c.loop-k.frag c.push.new.self _ c.loop-k.invariant c.in_ok-push.ensures.ok (ap piece.Let c.resolve.ensures)
