use Rattle.std.proofs.Common.{◌+◌, ap, ◌∙◌, arith}
use Rattle.cell_terms.specs.Resolving.{argument}
use Rattle.cell_terms.specs.declared.term.Slot.TheVariants as slots
use Rattle.frag_plan.specs.Plan.{ref_of}
use Rattle.frag_code.specs.declared.piece.Piece.TheVariants as piece
use Rattle.cost_table.proofs.Fitting.{expr_fits}
use Rattle.lower_kit.specs.Pieces.{copied_piece}
use Rattle.lower_kit.proofs.Named.{argument_close}
use Rattle.lower_kit.proofs.Pieces.{more}
use Rattle.lower_kit.proofs.rows.push_copied.Goals as goal

pub resolve-word-requires-clause-fits : goal.resolve-word-requires-clause-fits
resolve-word-requires-clause-fits c =
    let i = c.args.from + c.loop-k.k in
    let args = c.args.args.now in
    expr_fits 0 (argument args i) (omega arith) (argument_close args i c.requires.close)

pub loop-k-preserved : goal.loop-k-preserved
loop-k-preserved c =
    more (copied_piece c.args.args.now c.args.from) c.loop-k.k c.args.frag.now c.loop-k.frag c.push.new.self _ c.loop-k.invariant c.in_ok-push.ensures.ok
    (ap (λ cell. piece.Assert cell c.resolve-word.result) c.cell_at-cell.ensures ∙ ap (λ word. piece.Assert (ref_of 0 c.args.args.now (slots.Arg c.loop-k.k)) word) c.resolve-word.ensures)
