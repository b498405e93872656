-- Which lists of pieces are well formed.
use Rattle.std.specs.Prelude.{ℕ, ◌+◌, ◌<◌, ◌==◌, nat_lt, nat_le, Bool, true, false, ◌&&◌, ◌||◌, not, IsTrue, List, [], ◌∷◌, length}
use Rattle.std.specs.List.{All, list_any}
use Rattle.felt64.specs.Field.{modulus}
use Rattle.casm_word.specs.declared.cell_expr.CellExpr.{CellExpr}
use Rattle.casm_word.specs.declared.cell_expr.CellExpr.TheVariants as expr
use Rattle.casm_word.specs.declared.cell_expr.Side.{Side}
use Rattle.casm_word.specs.declared.cell_expr.Side.TheVariants as side
use Rattle.casm_word.specs.Offset.{IsNear}
use Rattle.casm_word.specs.Expressions.{IsExprInField}
use Rattle.hint_source.specs.declared.kind.Kind.{Kind}
use Rattle.hint_source.specs.declared.kind.Kind.TheVariants as kind
use Rattle.frag_code.specs.declared.piece.Piece.{Piece}
use Rattle.frag_code.specs.declared.piece.Piece.TheVariants as piece

abbrev pub is_jump : Piece → Bool
is_jump (piece.Let e) = false
is_jump (piece.Reserve n) = false
is_jump (piece.Hint cell ask) = false
is_jump (piece.Assert cell e) = false
is_jump (piece.Range pointer at cell) = false
is_jump (piece.IfNonZero cell to) = true
is_jump (piece.Exit x) = false

-- the fragment has an IfNonZero
abbrev pub has_jump : List Piece → Bool
has_jump f = list_any is_jump f

abbrev pub begins_with_exit : List Piece → Bool
begins_with_exit [] = false
begins_with_exit (piece.Exit x ∷ ps) = true
begins_with_exit (p ∷ ps) = false

abbrev pub is_exit : Piece → Bool
is_exit p = begins_with_exit (p ∷ [])

abbrev pub is_empty : List Piece → Bool
is_empty [] = true
is_empty (p ∷ ps) = false

-- What holds of a piece that has others behind it: an Exit comes before the end only where the fragment has an IfNonZero;
-- no Hint is followed by an Exit; an IfNonZero at position i names a later position.
abbrev pub is_placed : Bool → ℕ → Piece → List Piece → Bool
is_placed jumps i (piece.Let e) ps = true
is_placed jumps i (piece.Reserve n) ps = true
is_placed jumps i (piece.Hint cell ask) ps = not (begins_with_exit ps)
is_placed jumps i (piece.Assert cell e) ps = true
is_placed jumps i (piece.Range pointer at cell) ps = true
is_placed jumps i (piece.IfNonZero cell to) ps = nat_lt i to && nat_le to (i + length ps)
is_placed jumps i (piece.Exit x) ps = jumps

-- the pieces, of which the first has position i, are placed so, and the last one is an Exit
abbrev pub shape : Bool → ℕ → List Piece → Bool
shape jumps i [] = false
shape jumps i (p ∷ ps) = (is_exit p && is_empty ps) || (is_placed jumps i p ps && shape jumps (i + 1) ps)

abbrev pub is_hint : Piece → Bool
is_hint (piece.Hint cell ask) = true
is_hint p = false

-- The piece right before an IfNonZero's target is no Hint, so that no jump passes over a Hint whose code cell is the
-- target's. Of pieces of which the first has position i: the piece before that of position `to` is no hint.
abbrev pub no_hint_before : (i to : ℕ) → List Piece → Bool
no_hint_before i to [] = true
no_hint_before i to (p ∷ ps) = not (is_hint p && (i + 1) == to) && no_hint_before (i + 1) to ps

abbrev pub target_clear : ℕ → Piece → List Piece → Bool
target_clear i (piece.IfNonZero cell to) ps = no_hint_before (i + 1) to ps
target_clear i p ps = true

-- what the runner wants besides of pieces of which the first has position i: no jump passes over a Hint that is asked at the
-- jump's target
abbrev pub hints_met : ℕ → List Piece → Bool
hints_met i [] = true
hints_met i (p ∷ ps) = target_clear i p ps && hints_met (i + 1) ps

abbrev pub IsSideNear : Side → Type 0
IsSideNear (side.Cell at) = IsNear at.off
IsSideNear (side.Imm n) = Unit {0}

abbrev pub IsExprNear : CellExpr → Type 0
IsExprNear (expr.Cell at) = IsNear at.off
IsExprNear (expr.DoubleCell at inner) = IsNear at.off × IsNear inner
IsExprNear (expr.Imm n) = Unit {0}
IsExprNear (expr.Sum at s) = IsNear at.off × IsSideNear s
IsExprNear (expr.Diff at s) = IsNear at.off × IsSideNear s
IsExprNear (expr.Product at s) = IsNear at.off × IsSideNear s

-- each offset of the piece outside its ask has 16 bits
abbrev pub IsPieceNear : Piece → Type 0
IsPieceNear (piece.Let e) = IsExprNear e
IsPieceNear (piece.Reserve n) = Unit {0}
IsPieceNear (piece.Hint cell ask) = IsNear cell.off
IsPieceNear (piece.Assert cell e) = IsNear cell.off × IsExprNear e
IsPieceNear (piece.Range pointer at cell) = IsNear pointer.off × IsNear at × IsNear cell.off
IsPieceNear (piece.IfNonZero cell to) = IsNear cell.off
IsPieceNear (piece.Exit x) = Unit {0}

-- The last piece is an Exit, each IfNonZero names a later position, no Hint is followed by an Exit, the last piece is the
-- only Exit where there is no IfNonZero, and each offset outside an ask has 16 bits.
pub record IsWellFormed (f : List Piece) : Type 0 where
  pub shaped : IsTrue (shape (has_jump f) 0 f)
  pub near : All IsPieceNear f

abbrev pub IsAskInField : Kind CellExpr → Type 0
IsAskInField (kind.Less a b) = IsExprInField a × IsExprInField b
IsAskInField (kind.Quotient a b) = IsExprInField a × IsExprInField b
IsAskInField (kind.Remainder a b) = IsExprInField a × IsExprInField b
IsAskInField (kind.High a) = IsExprInField a
IsAskInField (kind.Low a) = IsExprInField a
IsAskInField kind.Fresh = Unit {0}
IsAskInField (kind.Previous log key) = IsExprInField log × IsExprInField key
IsAskInField (kind.KeyCount log) = IsExprInField log
IsAskInField (kind.KeyAt log i) = IsExprInField log × IsExprInField i
IsAskInField (kind.FirstAt log key) = IsExprInField log × IsExprInField key
IsAskInField (kind.NextIn log key index) = IsExprInField log × IsExprInField key × IsExprInField index

-- each immediate of the piece, and what it reserves, is below the field's order
abbrev pub IsPieceInField : Piece → Type 0
IsPieceInField (piece.Let e) = IsExprInField e
IsPieceInField (piece.Reserve n) = n < modulus
IsPieceInField (piece.Hint cell ask) = IsAskInField ask
IsPieceInField (piece.Assert cell e) = IsExprInField e
IsPieceInField (piece.Range pointer at cell) = Unit {0}
IsPieceInField (piece.IfNonZero cell to) = Unit {0}
IsPieceInField (piece.Exit x) = Unit {0}
