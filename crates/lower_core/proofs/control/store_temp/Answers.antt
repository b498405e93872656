use Rattle.std.proofs.Common.{[], ◌∷◌, ◌++◌, sym, ap, ◌∙◌}
use Rattle.type_trees.specs.Ty.{size}
use Rattle.type_table.specs.View.{tree_of}
use Rattle.frag_code.specs.declared.piece.Piece.TheVariants as piece
use Rattle.lower_kit.specs.Pieces.{laid_piece, pieces_of}
use Rattle.lower_kit.proofs.Pieces.{laid_row}
use Rattle.lower_core.proofs.control.store_temp.Goals as goal

pub returns : goal.returns
returns c =
    let args = c.args.args.now in
    let laid = c.in_ok-push_laid.ensures ∙ ap (λ ps. ps ++ pieces_of (laid_piece args) c.size.result) c.new-frag.ensures in
    c.in_ok-push.ensures.ok ∙ ap (λ ps. ps ++ piece.Exit 0 ∷ []) laid ∙ ap (λ n. pieces_of (laid_piece args) n ++ piece.Exit 0 ∷ []) c.size.ensures.size
    ∙ sym (laid_row args (size (tree_of c.args.types.now c.args.t.0)) 0)
