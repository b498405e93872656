-- Where the code of pieces lies, and that cells and expressions are those of the instructions.
use Rattle.std.proofs.Common.{◌≡◌, ℕ, ◌+◌, ◌<◌, Bool, true, false, ◌&&◌, ℤ, List, [], ◌∷◌, ◌++◌, Option, Some, None, IsTrue, refl, sym, ap, subst, ◌∙◌, inl, inr, add-zero, arith}
use Rattle.std.specs.List.{Contains}
use Rattle.std.specs.Option.{option_to_list}
use Rattle.std.proofs.lemmas.Bool.{and_parts, or_cases, false≢true}
use Rattle.std.proofs.lemmas.List.Elements.{Contains-append_left, Contains-append_right, Contains-push}
use Rattle.std.proofs.lemmas.List.Sums.{sum_by-cons}
use Rattle.felt64.specs.Field.{sum, difference, product}
use Rattle.casm_word.specs.declared.instr.Reg.{Reg}
use Rattle.casm_word.specs.declared.instr.Reg.TheVariants as reg
use Rattle.casm_word.specs.declared.instr.Instr.{Instr}
use Rattle.casm_word.specs.declared.cell_expr.At.{At}
use Rattle.casm_word.specs.declared.cell_expr.Side.{Side}
use Rattle.casm_word.specs.declared.cell_expr.Side.TheVariants as side
use Rattle.casm_word.specs.declared.cell_expr.CellExpr.{CellExpr}
use Rattle.casm_word.specs.declared.cell_expr.CellExpr.TheVariants as expr
use Rattle.casm_word.specs.Offset.{IsNear}
use Rattle.casm_word.specs.Encoding.{immediate}
use Rattle.ro_machine.specs.Step.{moved}
use Rattle.casm_steps.specs.Reading.{register, address, both, behind, side_by, reading_by}
use Rattle.casm_steps.specs.Executes.{state, cells_with, instr_cells, HasInstr, HasCode}
use Rattle.casm_steps.proofs.Addresses.{moved_near}
use Rattle.frag_code.specs.declared.piece.Piece.{Piece}
use Rattle.frag_code.specs.declared.piece.Piece.TheVariants as piece
use Rattle.frag_code.specs.Form.{is_exit, is_placed, shape, IsSideNear, IsExprNear}
use Rattle.frag_code.specs.Evaluation.{raised, address_after, word_after}
use Rattle.frag_code.specs.Emit.{instr_of, cells_in, cells_of, code_cells}

pub state_is : (x y z u v w : ℕ) → x ≡ u → y ≡ v → z ≡ w → state x y z ≡ state u v w
state_is x y z u v w first second third = rw (first, second, third) refl

-- each instruction takes a cell at least
pub instr_some : (i : Instr) → 0 < instr_cells i
instr_some i = some_cells (immediate i)
  where
    some_cells : (o : Option ℕ) → 0 < cells_with o
    some_cells None = omega arith
    some_cells (Some n) = omega arith

-- ap moves twice
pub moved_twice : (a n k : ℕ) → sum (sum a n) k ≡ sum a (n + k)
moved_twice a n k = omega arith

module _ (a fp n : ℕ) where
  -- a cell at the ap of a piece is the cell that is named once ap has moved
  pub cell_here : (r : Reg) (off : ℤ) → IsNear off → moved (register r (sum a n) fp) off ≡ moved (register r a fp) (raised n r off)
  cell_here reg.Ap off near = moved_near a n off near
  cell_here reg.Fp off near = refl

  module _ (m : ℕ → Option ℕ) where
    pub side_here : (s : Side) → IsSideNear s → side_by m (address (sum a n) fp) s ≡ side_by m (address_after a fp n) s
    side_here (side.Cell at) near = ap m (cell_here at.base at.off near)
    side_here (side.Imm k) near = refl

    both_here : (f : ℕ → ℕ → ℕ) (at : At) (s : Side) → IsNear at.off → IsSideNear s
        → both f (m (address (sum a n) fp at)) (side_by m (address (sum a n) fp) s) ≡ both f (m (address_after a fp n at)) (side_by m (address_after a fp n) s)
    both_here f at s near side_near = ap (λ x. both f (m x) (side_by m (address (sum a n) fp) s)) (cell_here at.base at.off near) ∙ ap (both f (m (address_after a fp n at))) (side_here s side_near)

    pub word_here : (e : CellExpr) → IsExprNear e → reading_by m (address (sum a n) fp) e ≡ word_after m a fp n e
    word_here (expr.Cell at) near = ap m (cell_here at.base at.off near)
    word_here (expr.DoubleCell at inner) near = ap (λ x. behind m (m x) inner) (cell_here at.base at.off near.0)
    word_here (expr.Imm k) near = refl
    word_here (expr.Sum at s) near = both_here sum at s near.0 near.1
    word_here (expr.Diff at s) near = both_here difference at s near.0 near.1
    word_here (expr.Product at s) near = both_here product at s near.0 near.1

-- the size of a piece's code doesn't depend on where its jump leads
pub cells_same : (jumps : Bool) (d : ℕ) (p : Piece) → cells_in (instr_of jumps d p) ≡ cells_of jumps p
cells_same jumps d (piece.Let e) = refl
cells_same jumps d (piece.Reserve n) = refl
cells_same jumps d (piece.Hint cell ask) = refl
cells_same jumps d (piece.Assert cell e) = refl
cells_same jumps d (piece.Range pointer at cell) = refl
cells_same jumps d (piece.IfNonZero cell to) = refl
cells_same true d (piece.Exit x) = refl
cells_same false d (piece.Exit x) = refl

-- the code behind an instruction, if there is one
pub code_behind : (m : ℕ → Option ℕ) (at : ℕ) (o : Option Instr) (is : List Instr) → HasCode m at (option_to_list o ++ is) → HasCode m (at + cells_in o) is
code_behind m at None is has = subst (λ at. HasCode m at is) (sym (add-zero at)) has
code_behind m at (Some i) is has = has.1

pub code_here : (m : ℕ → Option ℕ) (at : ℕ) (o : Option Instr) (i : Instr) (is : List Instr) → o ≡ Some i → HasCode m at (option_to_list o ++ is) → HasInstr m at i
code_here m at o i is same has = let here : HasCode m at (option_to_list (Some i) ++ is) = subst (λ o. HasCode m at (option_to_list o ++ is)) same has in here.0

-- a piece that has others behind it is placed right, and so are those
pub shape_parts : (jumps : Bool) (i : ℕ) (p q : Piece) (ps : List Piece) → IsTrue (shape jumps i (p ∷ q ∷ ps)) → IsTrue (is_placed jumps i p (q ∷ ps)) × IsTrue (shape jumps (i + 1) (q ∷ ps))
shape_parts jumps i p q ps shaped =
    elim (or_cases (is_exit p && false) (is_placed jumps i p (q ∷ ps) && shape jumps (i + 1) (q ∷ ps)) shaped) [
      | inl last ↦ absurd (false≢true ((and_parts (is_exit p) false last).1))
      | inr rest ↦ and_parts (is_placed jumps i p (q ∷ ps)) (shape jumps (i + 1) (q ∷ ps)) rest
    ]

-- the last piece is an Exit
pub shape_last : (jumps : Bool) (i : ℕ) (p : Piece) → IsTrue (shape jumps i (p ∷ [])) → IsTrue (is_exit p)
shape_last jumps i p shaped =
    elim (or_cases (is_exit p && true) (is_placed jumps i p [] && false) shaped) [
      | inl last ↦ (and_parts (is_exit p) true last).0
      | inr rest ↦ absurd (false≢true ((and_parts (is_placed jumps i p []) false rest).1))
    ]

pub contains_behind : (p x : Piece) (ps : List Piece) → Contains ps x → Contains (p ∷ ps) x
contains_behind p x ps has = Contains-append_right (p ∷ []) ps x has

pub contains_first : (x : Piece) (ps : List Piece) → Contains (x ∷ ps) x
contains_first x ps = Contains-append_left (x ∷ []) ps x (Contains-push [] x)

pub code_cells-cons : (jumps : Bool) (p : Piece) (ps : List Piece) → code_cells jumps (p ∷ ps) ≡ cells_of jumps p + code_cells jumps ps
code_cells-cons jumps p ps = sum_by-cons (cells_of jumps) p ps
