-- Plans: fragments as small trees over names. A plan's fragment is its list of pieces.
use Rattle.std.specs.Prelude.{ℕ, ◌+◌, pos, Bool, true, false, not, ◌&&◌, List, [], ◌∷◌, ◌++◌, length}
use Rattle.casm_word.specs.declared.instr.CellRef.{CellRef}
use Rattle.casm_word.specs.declared.cell_expr.CellExpr.{CellExpr}
use Rattle.hint_source.specs.declared.kind.Kind.{Kind}
use Rattle.hint_source.specs.declared.kind.Kind.TheVariants as kind
use Rattle.frag_code.specs.declared.piece.Piece.{Piece}
use Rattle.frag_code.specs.declared.piece.Piece.TheVariants as piece
use Rattle.frag_code.specs.Emit.{cell_of}
use Rattle.cell_terms.specs.declared.term.Slot.{Slot}
use Rattle.cell_terms.specs.declared.term.Term.{Term}
use Rattle.cell_terms.specs.Resolving.{place, resolve}

-- a line of a plan: lay a word at ap, move ap, ask for a cell's word, say that a cell has a word, check a range
pub data Line : Type 0 where
  lay : Term → Line
  reserve : ℕ → Line
  ask : Slot → Kind Term → Line
  same : Slot → Term → Line
  range : Slot → ℕ → Slot → Line

-- a plan: a line and what follows; a test, the first plan where the cell's word is 0 and else the second; an exit
pub data Plan : Type 0 where
  line : Line → Plan → Plan
  test : Slot → Plan → Plan → Plan
  exit : ℕ → Plan

-- a query of terms as one of expressions
abbrev pub resolve_ask : ℕ → List CellExpr → Kind Term → Kind CellExpr
resolve_ask d args (kind.Less a b) = kind.Less (resolve d args a) (resolve d args b)
resolve_ask d args (kind.Quotient a b) = kind.Quotient (resolve d args a) (resolve d args b)
resolve_ask d args (kind.Remainder a b) = kind.Remainder (resolve d args a) (resolve d args b)
resolve_ask d args (kind.High a) = kind.High (resolve d args a)
resolve_ask d args (kind.Low a) = kind.Low (resolve d args a)
resolve_ask d args kind.Fresh = kind.Fresh
resolve_ask d args (kind.Previous log key) = kind.Previous (resolve d args log) (resolve d args key)
resolve_ask d args (kind.KeyCount log) = kind.KeyCount (resolve d args log)
resolve_ask d args (kind.KeyAt log i) = kind.KeyAt (resolve d args log) (resolve d args i)
resolve_ask d args (kind.FirstAt log key) = kind.FirstAt (resolve d args log) (resolve d args key)
resolve_ask d args (kind.NextIn log key index) = kind.NextIn (resolve d args log) (resolve d args key) (resolve d args index)

abbrev pub ref_of : ℕ → List CellExpr → Slot → CellRef
ref_of d args n = cell_of (place d args n)

-- the piece of a line once ap has moved d cells
abbrev pub piece_of : ℕ → List CellExpr → Line → Piece
piece_of d args (lay t) = piece.Let (resolve d args t)
piece_of d args (reserve k) = piece.Reserve k
piece_of d args (ask n k) = piece.Hint (ref_of d args n) (resolve_ask d args k)
piece_of d args (same n t) = piece.Assert (ref_of d args n) (resolve d args t)
piece_of d args (range p k n) = piece.Range (ref_of d args p) (pos k) (ref_of d args n)

-- how many cells ap has moved after a line
abbrev pub change_after : Line → ℕ → ℕ
change_after (lay t) d = d + 1
change_after (reserve k) d = d + k
change_after (ask n k) d = d
change_after (same n t) d = d
change_after (range p k n) d = d

-- The pieces of a plan, of which the first has position i, once ap has moved d cells. A test jumps behind the pieces of its
-- first plan.
abbrev pub flatten : List CellExpr → (d i : ℕ) → Plan → List Piece
flatten args d i (line a p) = piece_of d args a ∷ flatten args (change_after a d) (i + 1) p
flatten args d i (test n p q) =
    piece.IfNonZero (ref_of d args n) (i + 1 + length (flatten args d (i + 1) p))
    ∷ (flatten args d (i + 1) p ++ flatten args d (i + 1 + length (flatten args d (i + 1) p)) q)
flatten args d i (exit k) = piece.Exit k ∷ []

-- the fragment of a plan over the expressions of its arguments
abbrev pub fragment : List CellExpr → Plan → List Piece
fragment args p = flatten args 0 0 p

abbrev pub is_ask : Line → Bool
is_ask (lay t) = false
is_ask (reserve k) = false
is_ask (ask n k) = true
is_ask (same n t) = false
is_ask (range p k n) = false

abbrev pub is_end : Plan → Bool
is_end (line a p) = false
is_end (test n p q) = false
is_end (exit k) = true

-- no query is followed by an exit, so that each is asked at a step
abbrev pub asks_met : Plan → Bool
asks_met (line a p) = not (is_ask a && is_end p) && asks_met p
asks_met (test n p q) = asks_met p && asks_met q
asks_met (exit k) = true
