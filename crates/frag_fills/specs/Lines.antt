-- How the lines of a plan fill cells: what a plan's fragment does, as words of named cells. An open operand of a sum, a difference
-- or a product is left out, as no plan has one yet.
use Rattle.std.specs.Prelude.{◌≡◌, ◌≢◌, ◌⊎◌, ◌<◌, ℕ, Bool, List, Some, None, if◌then◌else◌}
use Rattle.std.specs.FinMap.{get, insert}
use Rattle.felt64.specs.Field.{modulus, sum}
use Rattle.casm_word.specs.declared.cell_expr.CellExpr.{CellExpr}
use Rattle.cell_terms.specs.declared.term.Term.{Term}
use Rattle.cell_terms.specs.declared.term.Term.TheVariants as terms
use Rattle.ro_machine.specs.Cells.{Cells}
use Rattle.hint_source.specs.Remembered.{Remembered}
use Rattle.frag_code.specs.Evaluation.{Tally, step_by, step_on, step_naming}
use Rattle.frag_plan.specs.AtBegin.{slot_at, at_begin}
use Rattle.frag_plan.specs.Plan.{Line, lay, reserve, ask, same, range, Plan, line, test, exit}
use Rattle.frag_plan.specs.Scene.{slot_address}
use Rattle.frag_fills.specs.Filling.{Answers, Filled, query_of}

-- a cell without a word gets this one, of the field
pub record Gets (m : Cells) (a w : ℕ) (more : Cells) : Type 0 where
  pub small : w < modulus
  pub open_ : get m a ≡ None
  pub added : more ≡ insert m a w

module _ (ap fp : ℕ) (args : List CellExpr) where
  -- the term's one cell without a word is at this address, and gets the term's word
  abbrev pub IsOpenTerm : Cells → Term → ℕ → Type 0
  IsOpenTerm m (terms.Cell n) a = a ≡ slot_address ap fp args n
  IsOpenTerm m (terms.Behind n k) a = (b : ℕ) × (slot_at (get m) ap fp args n ≡ Some b) × (a ≡ sum b k)
  IsOpenTerm m _ a = ⊥

  -- Cell a has the word of a term. Either the term has its word, and the cell gets it where it has none; or the cell has one, and
  -- the term's open cell gets it.
  pub data Equates (a : ℕ) (t : Term) (m more : Cells) : Type 0 where
    left : (w : ℕ) → at_begin (get m) ap fp args t ≡ Some w → Gets m a w more → Equates a t m more
    right : (b w : ℕ) → get m a ≡ Some w → IsOpenTerm m t b → Gets m b w more → Equates a t m more
    known : (w : ℕ) → get m a ≡ Some w → at_begin (get m) ap fp args t ≡ Some w → more ≡ m → Equates a t m more

  -- what a line does at a tally: what the honest source remembers then, the cells, and the tally
  abbrev pub LineFills : Line → Tally → Remembered → Cells → Tally → Remembered → Cells → Type 0
  LineFills (lay t) u r m v s more = Equates (sum ap u.change) t m more × (s ≡ r) × (v ≡ step_by 1 u)
  LineFills (reserve k) u r m v s more = (more ≡ m) × (s ≡ r) × (v ≡ step_by k u)
  LineFills (ask n q) u r m v s more = Answers (query_of (at_begin (get m) ap fp args) q) (slot_address ap fp args n) r m s more × (v ≡ u)
  LineFills (same n t) u r m v s more = Equates (slot_address ap fp args n) t m more × (s ≡ r) × (v ≡ step_on u)
  LineFills (range p k n) u r m v s more =
      (b w : ℕ) × (slot_at (get more) ap fp args p ≡ Some b) × (slot_at (get more) ap fp args n ≡ Some w) × (get more (sum b k) ≡ Some w)
      × Equates (slot_address ap fp args n) (terms.Behind p k) m more × (s ≡ r) × (v ≡ step_naming (sum b k) w u)

  -- the way through a plan to the exit k, each line filling cells
  abbrev pub PlanFills : Bool → Plan → Tally → Remembered → Cells → (k : ℕ) → Filled → Type 0
  PlanFills jumps (line a p) u r m k z = (v : Tally) × (s : Remembered) × (more : Cells) × LineFills a u r m v s more × PlanFills jumps p v s more k z
  PlanFills jumps (test n p q) u r m k z =
      (w : ℕ) × (slot_at (get m) ap fp args n ≡ Some w)
      × (((w ≡ 0) × PlanFills jumps p (step_on u) r m k z) ⊎ ((w ≢ 0) × PlanFills jumps q (step_on u) r m k z))
  PlanFills jumps (exit j) u r m k z = (k ≡ j) × (z ≡ record { end = if jumps then step_on u else u; remembered = r; cells = m })
