-- The code of a fragment at a place, and the hints that are asked in it.
use Rattle.std.specs.Prelude.{ℕ, ◌+◌, ◌-◌, Bool, true, false, pos, List, [], ◌∷◌, ◌++◌, take, Option, Some, None, if◌then◌else◌}
use Rattle.std.specs.List.{sum_by}
use Rattle.std.specs.Option.{option_to_list}
use Rattle.felt64.specs.Field.{difference, negative}
use Rattle.casm_word.specs.declared.instr.CellRef.{CellRef}
use Rattle.casm_word.specs.declared.instr.Operand.{Operand}
use Rattle.casm_word.specs.declared.instr.Operand.TheVariants as operand
use Rattle.casm_word.specs.declared.instr.Res.TheVariants as res
use Rattle.casm_word.specs.declared.instr.Instr.{Instr}
use Rattle.casm_word.specs.declared.instr.Instr.TheVariants as instr
use Rattle.casm_word.specs.declared.cell_expr.At.{At}
use Rattle.casm_word.specs.declared.cell_expr.Side.{Side}
use Rattle.casm_word.specs.declared.cell_expr.Side.TheVariants as side
use Rattle.casm_word.specs.declared.cell_expr.CellExpr.{CellExpr}
use Rattle.casm_word.specs.declared.cell_expr.CellExpr.TheVariants as expr
use Rattle.casm_word.specs.Encoding.{ap_cell}
use Rattle.casm_steps.specs.Executes.{instr_cells}
use Rattle.frag_code.specs.declared.piece.Piece.{Piece}
use Rattle.frag_code.specs.declared.piece.Piece.TheVariants as piece
use Rattle.frag_code.specs.declared.emission.HintAt.{HintAt}
use Rattle.frag_code.specs.Form.{has_jump}

abbrev pub cell_of : At → CellRef
cell_of at = record { reg = at.base; off = at.off }

abbrev pub operand_of : Side → Operand
operand_of (side.Cell at) = operand.Cell (cell_of at)
operand_of (side.Imm n) = operand.Imm n

-- The instruction that says that a cell has the word of an expression. A difference of two cells is said as a sum: the
-- first one is the cell plus the second. A difference with a number is the sum with its negative.
abbrev pub assertion : CellRef → CellExpr → Bool → Instr
assertion c (expr.Cell at) inc = instr.AssertEq c (res.Cell (cell_of at)) inc
assertion c (expr.DoubleCell at inner) inc = instr.AssertEq c (res.Double (cell_of at) inner) inc
assertion c (expr.Imm n) inc = instr.AssertEq c (res.Imm n) inc
assertion c (expr.Sum at s) inc = instr.AssertEq c (res.Add (cell_of at) (operand_of s)) inc
assertion c (expr.Diff at (side.Cell b)) inc = instr.AssertEq (cell_of at) (res.Add c (operand.Cell (cell_of b))) inc
assertion c (expr.Diff at (side.Imm n)) inc = instr.AssertEq c (res.Add (cell_of at) (operand.Imm (negative n))) inc
assertion c (expr.Product at s) inc = instr.AssertEq c (res.Mul (cell_of at) (operand_of s)) inc

-- The instruction of a piece, if it has one; d is the distance of its jump. An Exit has one only where the fragment has an
-- IfNonZero.
abbrev pub instr_of : Bool → ℕ → Piece → Option Instr
instr_of jumps d (piece.Let e) = Some (assertion (ap_cell (pos 0)) e true)
instr_of jumps d (piece.Reserve n) = Some (instr.AddAp (res.Imm n))
instr_of jumps d (piece.Hint cell ask) = None
instr_of jumps d (piece.Assert cell e) = Some (assertion cell e false)
instr_of jumps d (piece.Range pointer at cell) = Some (instr.AssertEq cell (res.Double pointer at) false)
instr_of jumps d (piece.IfNonZero cell to) = Some (instr.Jnz cell (operand.Imm d) false)
instr_of jumps d (piece.Exit x) = if jumps then Some (instr.Jump true (res.Imm d) false) else None

abbrev pub cells_in : Option Instr → ℕ
cells_in None = 0
cells_in (Some i) = instr_cells i

-- how many code cells a piece takes
abbrev pub cells_of : Bool → Piece → ℕ
cells_of jumps p = cells_in (instr_of jumps 0 p)

-- how many code cells pieces take
abbrev pub code_cells : Bool → List Piece → ℕ
code_cells jumps ps = sum_by (cells_of jumps) ps

-- The distance of a piece's jump. The piece has position i and lies at a place, ps are the pieces behind it. An IfNonZero
-- jumps over its own two cells and those of the pieces before the one that it names; an Exit jumps to the cell of its
-- branch.
abbrev pub distance : Bool → (ℕ → ℕ) → (i at : ℕ) → Piece → List Piece → ℕ
distance jumps exits i at (piece.Let e) ps = 0
distance jumps exits i at (piece.Reserve n) ps = 0
distance jumps exits i at (piece.Hint cell ask) ps = 0
distance jumps exits i at (piece.Assert cell e) ps = 0
distance jumps exits i at (piece.Range pointer offset cell) ps = 0
distance jumps exits i at (piece.IfNonZero cell to) ps = 2 + code_cells jumps (take (to - (i + 1)) ps)
distance jumps exits i at (piece.Exit x) ps = difference (exits x) at

-- the instructions of pieces, of which the first has position i and lies at a place
abbrev pub code_from : Bool → (ℕ → ℕ) → (i at : ℕ) → List Piece → List Instr
code_from jumps exits i at [] = []
code_from jumps exits i at (p ∷ ps) =
    option_to_list (instr_of jumps (distance jumps exits i at p ps) p) ++ code_from jumps exits (i + 1) (at + cells_of jumps p) ps

-- the hint of a piece that lies at a place
abbrev pub hint_of : ℕ → Piece → Option HintAt
hint_of at (piece.Let e) = None
hint_of at (piece.Reserve n) = None
hint_of at (piece.Hint cell ask) = Some (record { pc = at; cell = cell; ask = ask })
hint_of at (piece.Assert cell e) = None
hint_of at (piece.Range pointer offset cell) = None
hint_of at (piece.IfNonZero cell to) = None
hint_of at (piece.Exit x) = None

-- the hints of pieces, of which the first lies at a place, each at the code cell of the next step
abbrev pub hints_from : Bool → (at : ℕ) → List Piece → List HintAt
hints_from jumps at [] = []
hints_from jumps at (p ∷ ps) = option_to_list (hint_of at p) ++ hints_from jumps (at + cells_of jumps p) ps

-- the code of a fragment at a place, where branch k leads to the cell `exits k`
abbrev pub code_of : List Piece → (at : ℕ) → (exits : ℕ → ℕ) → List Instr
code_of f at exits = code_from (has_jump f) exits 0 at f

-- the hints of a fragment at a place, in the order of asking
abbrev pub hints_of : List Piece → (at : ℕ) → List HintAt
hints_of f at = hints_from (has_jump f) at f

-- the number of code cells of a fragment
abbrev pub cells_of_code : List Piece → ℕ
cells_of_code f = code_cells (has_jump f) f
