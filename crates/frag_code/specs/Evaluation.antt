-- What a fragment means over the cells of a run: an evaluation goes through the pieces, ends at an Exit and counts.
use Rattle.std.specs.Prelude.{◌≡◌, ◌≢◌, ◌⊎◌, ℕ, zero, suc, ◌+◌, ◌-◌, Bool, ℤ, pos, ◌+ℤ◌, List, [], ◌∷◌, ◌++◌, Option, Some, if◌then◌else◌}
use Rattle.felt64.specs.Field.{sum}
use Rattle.casm_word.specs.declared.instr.Reg.{Reg}
use Rattle.casm_word.specs.declared.instr.Reg.TheVariants as reg
use Rattle.casm_word.specs.declared.instr.CellRef.{CellRef}
use Rattle.casm_word.specs.declared.cell_expr.At.{At}
use Rattle.casm_word.specs.declared.cell_expr.CellExpr.{CellExpr}
use Rattle.ro_machine.specs.Step.{moved}
use Rattle.casm_steps.specs.Reading.{register, reading_by}
use Rattle.frag_code.specs.declared.piece.Piece.{Piece}
use Rattle.frag_code.specs.declared.piece.Piece.TheVariants as piece
use Rattle.frag_code.specs.Form.{has_jump}

-- What an evaluation counts: its steps, how many cells ap has moved, and the range-check cells that were named, each with
-- its word, in order. The pointer moves by as many cells as were named.
pub record Tally : Type 0 where
  pub steps : ℕ
  pub change : ℕ
  pub named : List (ℕ × ℕ)

abbrev pub nothing : Tally
nothing = record { steps = 0; change = 0; named = [] }

-- a step more, by which ap moves n cells
abbrev pub step_by : ℕ → Tally → Tally
step_by n t = record { steps = t.steps + 1; change = t.change + n; named = t.named }

-- a step more, by which ap stays
abbrev pub step_on : Tally → Tally
step_on t = record { steps = t.steps + 1; change = t.change; named = t.named }

-- a step more, which names a range-check cell
abbrev pub step_naming : ℕ → ℕ → Tally → Tally
step_naming cell word t = record { steps = t.steps + 1; change = t.change; named = t.named ++ (cell, word) ∷ [] }

-- once ap has moved n cells, an offset from it counts from n cells further on
abbrev pub raised : ℕ → Reg → ℤ → ℤ
raised n reg.Ap off = off +ℤ pos n
raised n reg.Fp off = off

-- the address of a cell that is named once ap has moved n cells
abbrev pub address_after : ℕ → ℕ → ℕ → At → ℕ
address_after ap fp n at = moved (register at.base ap fp) (raised n at.base at.off)

abbrev pub cell_after : ℕ → ℕ → ℕ → CellRef → ℕ
cell_after ap fp n c = moved (register c.reg ap fp) (raised n c.reg c.off)

-- the word of an expression that is named once ap has moved n cells
abbrev pub word_after : (ℕ → Option ℕ) → ℕ → ℕ → ℕ → CellExpr → Option ℕ
word_after m ap fp n e = reading_by m (address_after ap fp n) e

-- What the piece at position i says of the cells, at a tally, ap and fp being those at the fragment's begin. `next` says
-- how it goes on: how many pieces are passed over, and the tally then. `ends` says how it ends: the branch, and the tally.
abbrev pub Says : (ℕ → Option ℕ) → (ap fp : ℕ) → (jumps : Bool) → Piece → (i : ℕ) → Tally → (next : ℕ → Tally → Type 0) → (ends : ℕ → Tally → Type 0) → Type 0
Says m ap fp jumps (piece.Let e) i t next ends =
    (w : ℕ) × (m (sum ap t.change) ≡ Some w) × (word_after m ap fp t.change e ≡ Some w) × next 0 (step_by 1 t)
Says m ap fp jumps (piece.Reserve n) i t next ends = next 0 (step_by n t)
Says m ap fp jumps (piece.Hint cell ask) i t next ends = next 0 t
Says m ap fp jumps (piece.Assert cell e) i t next ends =
    (w : ℕ) × (m (cell_after ap fp t.change cell) ≡ Some w) × (word_after m ap fp t.change e ≡ Some w) × next 0 (step_on t)
Says m ap fp jumps (piece.Range pointer at cell) i t next ends =
    (b : ℕ) × (w : ℕ) × (m (cell_after ap fp t.change pointer) ≡ Some b) × (m (moved b at) ≡ Some w)
    × (m (cell_after ap fp t.change cell) ≡ Some w) × next 0 (step_naming (moved b at) w t)
Says m ap fp jumps (piece.IfNonZero cell to) i t next ends =
    (w : ℕ) × (m (cell_after ap fp t.change cell) ≡ Some w)
    × (((w ≡ 0) × next 0 (step_on t)) ⊎ ((w ≢ 0) × next (to - (i + 1)) (step_on t)))
Says m ap fp jumps (piece.Exit x) i t next ends = ends x (if jumps then step_on t else t)

-- The evaluation of the pieces from position i on, of which so many are passed over first, from a tally to the branch k
-- and the tally at the end.
unfoldable pub Evaluates : (ℕ → Option ℕ) → (ap fp : ℕ) → (jumps : Bool) → List Piece → (i skip : ℕ) → Tally → (k : ℕ) → (end : Tally) → Type 0
Evaluates m ap fp jumps [] i skip t k end = ⊥
Evaluates m ap fp jumps (p ∷ ps) i (suc skip) t k end = Evaluates m ap fp jumps ps (i + 1) skip t k end
Evaluates m ap fp jumps (p ∷ ps) i zero t k end =
    Says m ap fp jumps p i t (λ skip u. Evaluates m ap fp jumps ps (i + 1) skip u k end) (λ x u. (k ≡ x) × (end ≡ u))

-- the fragment has an evaluation over these cells, from ap and fp, with this exit and these counts
abbrev pub Evaluation : List Piece → (ℕ → Option ℕ) → (ap fp : ℕ) → (k : ℕ) → (end : Tally) → Type 0
Evaluation f m ap fp k end = Evaluates m ap fp (has_jump f) f 0 0 nothing k end
