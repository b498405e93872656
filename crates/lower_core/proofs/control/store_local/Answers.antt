use Rattle.std.proofs.Common.{[], ◌∷◌, ◌++◌, sym, ap, ◌∙◌}
use Rattle.type_trees.specs.Ty.{size}
use Rattle.type_table.specs.View.{tree_of}
use Rattle.frag_code.specs.declared.piece.Piece.TheVariants as piece
use Rattle.lower_kit.specs.Pieces.{copied_piece, pieces_of}
use Rattle.lower_kit.proofs.Pieces.{copied_row}
use Rattle.lower_core.proofs.control.store_local.Goals as goal

pub returns : goal.returns
returns c =
    let args = c.args.args.now in
    let n = size (tree_of c.args.types.now c.args.t.0) in
    let cells = c.size-cells.result in
    let copied = c.in_ok-push_copied.ensures ∙ ap (λ ps. ps ++ pieces_of (copied_piece args cells) cells) c.new-frag.ensures in
    c.in_ok-push.ensures.ok ∙ ap (λ ps. ps ++ piece.Exit 0 ∷ []) copied ∙ ap (λ n. pieces_of (copied_piece args n) n ++ piece.Exit 0 ∷ []) c.size-cells.ensures.size
    ∙ sym (copied_row args n n 0)
