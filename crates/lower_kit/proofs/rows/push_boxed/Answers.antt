use Rattle.std.proofs.Common.{ap, ◌∙◌}
use Rattle.cell_terms.specs.declared.term.Slot.TheVariants as slots
use Rattle.frag_plan.specs.Plan.{ref_of}
use Rattle.frag_code.specs.declared.piece.Piece.TheVariants as piece
use Rattle.lower_kit.specs.Pieces.{boxed_piece}
use Rattle.lower_kit.proofs.Pieces.{more}
use Rattle.lower_kit.proofs.rows.push_boxed.Goals as goal

pub loop-k-preserved : goal.loop-k-preserved
loop-k-preserved c =
    more (boxed_piece c.args.args.now) c.loop-k.k c.args.frag.now c.loop-k.frag c.push.new.self _ c.loop-k.invariant c.in_ok-push.ensures.ok
    (ap (λ cell. piece.Assert cell c.resolve-word.result) c.cell_at-cell.ensures ∙ ap (λ word. piece.Assert (ref_of 1 c.args.args.now (slots.Arg c.loop-k.k)) word) c.resolve-word.ensures)
