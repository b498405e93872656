use Rattle.std.proofs.Common.{[], ◌∷◌, ◌++◌, sym, ap, ◌∙◌}
use Rattle.hint_source.specs.declared.kind.Kind.TheVariants as kind
use Rattle.cell_terms.specs.declared.term.Slot.TheVariants as slots
use Rattle.frag_code.specs.declared.piece.Piece.TheVariants as piece
use Rattle.frag_plan.specs.Plan.{ref_of}
use Rattle.lower_kit.specs.Pieces.{boxed_piece, pieces_of}
use Rattle.lower_kit.proofs.Pieces.{boxed_row}
use Rattle.lower_core.proofs.data.boxed.Goals as goal

pub returns : goal.returns
returns c =
    let args = c.args.args.now in
    let row = pieces_of (boxed_piece args) c.args.cells in
    let hint = c.in_ok-push.ensures.ok ∙ ap (λ ps. ps ++ piece.Hint c.cell_at.result kind.Fresh ∷ []) c.new-frag.ensures in
    let place = c.in_ok-push-2.ensures.ok ∙ ap (λ ps. ps ++ piece.Reserve 1 ∷ []) hint in
    let words = c.in_ok-push_boxed.ensures ∙ ap (λ ps. ps ++ row) place in
    c.in_ok-push-3.ensures.ok ∙ ap (λ ps. ps ++ piece.Exit 0 ∷ []) words
    ∙ ap (λ cell. piece.Hint cell kind.Fresh ∷ piece.Reserve 1 ∷ (row ++ piece.Exit 0 ∷ [])) c.cell_at.ensures
    ∙ ap (λ ps. piece.Hint (ref_of 0 args (slots.Own 0)) kind.Fresh ∷ piece.Reserve 1 ∷ ps) (sym (boxed_row args c.args.cells 2 0))
