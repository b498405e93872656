-- The pieces of rows, as the code makes them.
use Rattle.std.specs.Prelude.{ℕ, ◌+◌, List, map}
use Rattle.std.specs.List.{range_with_len}
use Rattle.casm_word.specs.declared.cell_expr.CellExpr.{CellExpr}
use Rattle.cell_terms.specs.declared.term.Slot.TheVariants as slots
use Rattle.cell_terms.specs.declared.term.Term.TheVariants as terms
use Rattle.cell_terms.specs.Resolving.{resolve}
use Rattle.frag_code.specs.declared.piece.Piece.{Piece}
use Rattle.frag_code.specs.declared.piece.Piece.TheVariants as piece
use Rattle.frag_plan.specs.Plan.{ref_of}

-- each argument expression of the first ones is laid, ap having moved by as many cells as were laid
abbrev pub laid_piece : List CellExpr → ℕ → Piece
laid_piece args k = piece.Let (resolve k args (terms.Whole k))

-- the argument's cell of this number has the word of the expression so many further
abbrev pub copied_piece : List CellExpr → (from k : ℕ) → Piece
copied_piece args from k = piece.Assert (ref_of 0 args (slots.Arg k)) (resolve 0 args (terms.Whole (from + k)))

-- the argument's cell of this number has the word of the cell behind the one new cell's
abbrev pub boxed_piece : List CellExpr → ℕ → Piece
boxed_piece args k = piece.Assert (ref_of 1 args (slots.Arg k)) (resolve 1 args (terms.Behind (slots.Own 0) k))

abbrev pub pieces_of : (ℕ → Piece) → ℕ → List Piece
pieces_of f n = map f (range_with_len 0 n)
