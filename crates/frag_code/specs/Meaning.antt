-- The code of a fragment means the fragment.
use Rattle.std.specs.Prelude.{◌≡◌, ◌⊎◌, ℕ, ◌+◌, ◌^◌, ◌<◌, ◌≤◌, false, List, length, slice_index, Option, IsSome}
use Rattle.std.specs.List.{Contains}
use Rattle.felt64.specs.Field.{modulus, sum, difference}
use Rattle.casm_word.specs.declared.instr.Instr.{Instr}
use Rattle.ro_machine.specs.declared.machine.State.{State}
use Rattle.ro_machine.specs.Memory.{IsMemory}
use Rattle.casm_steps.specs.Executes.{state, HasCode}
use Rattle.casm_steps.specs.Path.{Path, Inside, Splits, StaysInside, Arrives}
use Rattle.frag_code.specs.declared.piece.Piece.{Piece}
use Rattle.frag_code.specs.declared.piece.Piece.TheVariants as piece
use Rattle.frag_code.specs.Form.{IsWellFormed, has_jump}
use Rattle.frag_code.specs.Emit.{cells_of_code}
use Rattle.frag_code.specs.Evaluation.{Tally, Evaluation}

-- an Exit of the fragment names this branch
abbrev pub Names : List Piece → ℕ → Type 0
Names f x = Contains f (piece.Exit x)

-- each branch that an Exit names has an entry, which is a place
abbrev pub AreEntries : List Piece → List ℕ → Type 0
AreEntries f exits = (x : ℕ) → Names f x → (x < length exits) × (slice_index exits x ≤ 2 ^ 25)

-- Where a fragment may be put: it is well formed, all places are at most 2 ^ 25, and without an IfNonZero its exit is the
-- cell after its code.
pub record IsPut (f : List Piece) (at : ℕ) (exits : ℕ → ℕ) : Type 0 where
  pub well_formed : IsWellFormed f
  pub code_fits : at + cells_of_code f ≤ 2 ^ 25
  pub exits_fit : (x : ℕ) → Names f x → exits x ≤ 2 ^ 25
  pub falls_through : has_jump f ≡ false → (x : ℕ) → Names f x → exits x ≡ at + cells_of_code f

-- the exits lie outside of the code, and no two branches have one cell
pub record AreApart (f : List Piece) (at : ℕ) (exits : ℕ → ℕ) : Type 0 where
  pub outside : (x : ℕ) → Names f x → (exits x < at) ⊎ (at + cells_of_code f ≤ exits x)
  pub differ : (x y : ℕ) → Names f x → Names f y → exits x ≡ exits y → x ≡ y

-- After so many steps the state is at the exit of a branch, and that is an evaluation with the same counts.
pub record Exits (f : List Piece) (m : ℕ → Option ℕ) (ap fp : ℕ) (exits : ℕ → ℕ) (s : State) (n : ℕ) : Type 0 where
  pub branch : ℕ
  pub end : Tally
  pub named : Names f branch
  pub evaluation : Evaluation f m ap fp branch end
  pub at_exit : s ≡ state (exits branch) (sum ap end.change) fp
  pub counts : end.steps ≡ n

-- Cells, ap and fp with which a fragment's code is run: the code stands in the cells, and all are numbers of the field.
pub record IsRunnable (m : ℕ → Option ℕ) (at : ℕ) (code : List Instr) (ap : ℕ) : Type 0 where
  pub in_field : IsMemory m
  pub has_code : HasCode m at code
  pub ap_below : ap < modulus

-- Steps from the code's first cell stay in the code until they reach the exit of an evaluation.
abbrev pub StaysOrExits : List Piece → ℕ → (ℕ → ℕ) → List Instr → Type 0
StaysOrExits f at exits code =
    (m : ℕ → Option ℕ) (ap fp : ℕ) (us : List State) (z : State) → IsRunnable m at code ap → Path m (state at ap fp) us z
    → Splits m at (at + cells_of_code f) (state at ap fp) us z (Exits f m ap fp exits) ⊎ StaysInside at (at + cells_of_code f) (state at ap fp) us z

-- A stretch of steps through the code, from its first cell to the cell of an exit, is an evaluation with that exit and with
-- the same counts.
abbrev pub StretchesEvaluate : List Piece → ℕ → (ℕ → ℕ) → List Instr → Type 0
StretchesEvaluate f at exits code =
    (m : ℕ → Option ℕ) (ap fp : ℕ) (us : List State) (z : State) (x : ℕ) → IsRunnable m at code ap → AreApart f at exits
    → Path m (state at ap fp) us z → Inside at (at + cells_of_code f) (state at ap fp) us → Names f x → z.pc ≡ exits x
    → (end : Tally) × Evaluation f m ap fp x end × (z ≡ state (exits x) (sum ap end.change) fp) × (end.steps ≡ length us)

-- Each evaluation is such a stretch, where the cell at fp - 1 is listed, which the machine reads for unused operands.
abbrev pub EvaluationsStretch : List Piece → ℕ → (ℕ → ℕ) → List Instr → Type 0
EvaluationsStretch f at exits code =
    (m : ℕ → Option ℕ) (ap fp k : ℕ) (end : Tally) → IsRunnable m at code ap → IsSome (m (difference fp 1)) → Evaluation f m ap fp k end
    → Arrives m at (at + cells_of_code f) (state at ap fp) (λ u n. (u ≡ state (exits k) (sum ap end.change) fp) × (end.steps ≡ n))

-- the code means the fragment
pub record MeansFragment (f : List Piece) (at : ℕ) (exits : ℕ → ℕ) (code : List Instr) : Type 0 where
  pub stays : StaysOrExits f at exits code
  pub stretches : StretchesEvaluate f at exits code
  pub evaluations : EvaluationsStretch f at exits code
