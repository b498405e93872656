-- What a plan says of plain words: the evaluation of a plan's fragment, branch by branch, as equations between words.
use Rattle.std.specs.Prelude.{◌≡◌, ◌≢◌, ◌⊎◌, ℕ, Bool, Option, Some, None, List, if◌then◌else◌}
use Rattle.felt64.specs.Field.{sum, difference, product}
use Rattle.casm_word.specs.declared.cell_expr.CellExpr.{CellExpr}
use Rattle.casm_steps.specs.Reading.{address, reading}
use Rattle.frag_code.specs.Evaluation.{Tally, step_by, step_on, step_naming}
use Rattle.cell_terms.specs.declared.term.Slot.{Slot}
use Rattle.cell_terms.specs.declared.term.Slot.TheVariants as slots
use Rattle.cell_terms.specs.declared.term.Second.{Second}
use Rattle.cell_terms.specs.declared.term.Second.TheVariants as seconds
use Rattle.cell_terms.specs.declared.term.Term.{Term}
use Rattle.cell_terms.specs.declared.term.Term.TheVariants as terms
use Rattle.cell_terms.specs.Resolving.{at_of, argument}
use Rattle.frag_plan.specs.Plan.{Line, lay, reserve, ask, same, range, Plan, line, test, exit}

-- what a plan sees: a word for each named cell, for each argument's expression and for each address
pub record Scene : Type 0 where
  pub w : Slot → ℕ
  pub expression : ℕ → ℕ
  pub at_address : ℕ → ℕ

abbrev pub second : Scene → Second → ℕ
second c (seconds.Slot n) = c.w n
second c (seconds.Number k) = k

-- the word of a term
abbrev pub value : Scene → Term → ℕ
value c (terms.Whole i) = c.expression i
value c (terms.Cell n) = c.w n
value c (terms.Behind n k) = c.at_address (sum (c.w n) k)
value c (terms.Word k) = k
value c (terms.Add n o) = sum (c.w n) (second c o)
value c (terms.Sub n o) = difference (c.w n) (second c o)
value c (terms.Mul n o) = product (c.w n) (second c o)

-- what a line says of the words once ap has moved d cells
abbrev pub Fact : Scene → ℕ → Line → Type 0
Fact c d (lay t) = c.w (slots.Own d) ≡ value c t
Fact c d (reserve k) = Unit {0}
Fact c d (ask n k) = Unit {0}
Fact c d (same n t) = c.w n ≡ value c t
Fact c d (range p k n) = c.at_address (sum (c.w p) k) ≡ c.w n

-- the counts after a line
abbrev pub after : Scene → Line → Tally → Tally
after c (lay t) u = step_by 1 u
after c (reserve k) u = step_by k u
after c (ask n k) u = u
after c (same n t) u = step_on u
after c (range p k n) u = step_naming (sum (c.w p) k) (c.w n) u

-- The way through a plan to the exit k, on which F holds of each line and G of the cell of each test. At a test it is the way
-- of the cell's word. `jumps` says whether an exit takes a step.
abbrev pub Along : Scene → Bool → (F : ℕ → Line → Type 0) → (G : Slot → Type 0) → Plan → Tally → (k : ℕ) → (end : Tally) → Type 0
Along c jumps F G (line a p) t k end = F t.change a × Along c jumps F G p (after c a t) k end
Along c jumps F G (test n p q) t k end =
    G n × (((c.w n ≡ 0) × Along c jumps F G p (step_on t) k end) ⊎ ((c.w n ≢ 0) × Along c jumps F G q (step_on t) k end))
Along c jumps F G (exit j) t k end = (k ≡ j) × (end ≡ (if jumps then step_on t else t))

-- the address of a named cell, ap and fp being those at the begin
abbrev pub slot_address : (ap fp : ℕ) → List CellExpr → Slot → ℕ
slot_address ap fp args (slots.Own k) = sum ap k
slot_address ap fp args (slots.Arg i) = address ap fp (at_of (argument args i))
slot_address ap fp args (slots.Frame k) = sum fp k

abbrev pub word_or_zero : Option ℕ → ℕ
word_or_zero (Some w) = w
word_or_zero None = 0

-- the scene of a memory: the words that it lists, and 0 where it lists none
abbrev pub scene_of : (ℕ → Option ℕ) → (ap fp : ℕ) → List CellExpr → Scene
scene_of m ap fp args = record {
  w = λ n. word_or_zero (m (slot_address ap fp args n));
  expression = λ i. word_or_zero (reading m ap fp (argument args i));
  at_address = λ a. word_or_zero (m a);
}

module _ (m : ℕ → Option ℕ) (ap fp : ℕ) (args : List CellExpr) (c : Scene) where
  abbrev pub SlotListed : Slot → Type 0
  SlotListed n = m (slot_address ap fp args n) ≡ Some (c.w n)

  abbrev pub SecondListed : Second → Type 0
  SecondListed (seconds.Slot n) = SlotListed n
  SecondListed (seconds.Number k) = Unit {0}

  -- the cells of a term are listed with the words of the scene
  abbrev pub TermListed : Term → Type 0
  TermListed (terms.Whole i) = reading m ap fp (argument args i) ≡ Some (c.expression i)
  TermListed (terms.Cell n) = SlotListed n
  TermListed (terms.Behind n k) = SlotListed n × (m (sum (c.w n) k) ≡ Some (c.at_address (sum (c.w n) k)))
  TermListed (terms.Word k) = Unit {0}
  TermListed (terms.Add n o) = SlotListed n × SecondListed o
  TermListed (terms.Sub n o) = SlotListed n × SecondListed o
  TermListed (terms.Mul n o) = SlotListed n × SecondListed o

  -- the cells that a line names once ap has moved d cells are listed with the words of the scene
  abbrev pub LineListed : ℕ → Line → Type 0
  LineListed d (lay t) = SlotListed (slots.Own d) × TermListed t
  LineListed d (reserve k) = Unit {0}
  LineListed d (ask n k) = Unit {0}
  LineListed d (same n t) = SlotListed n × TermListed t
  LineListed d (range p k n) = SlotListed p × (m (sum (c.w p) k) ≡ Some (c.at_address (sum (c.w p) k))) × SlotListed n

  -- a line holds: its cells are listed, and its fact is one of their words
  abbrev pub LineHolds : ℕ → Line → Type 0
  LineHolds d a = LineListed d a × Fact c d a
