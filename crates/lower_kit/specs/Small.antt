-- When the numbers of plans are small, so that offsets have 16 bits.
use Rattle.std.specs.Prelude.{ℕ, ◌+◌, ◌≤◌, ◌^◌}
use Rattle.cell_terms.specs.declared.term.Slot.{Slot}
use Rattle.cell_terms.specs.declared.term.Slot.TheVariants as slots
use Rattle.cell_terms.specs.declared.term.Second.{Second}
use Rattle.cell_terms.specs.declared.term.Second.TheVariants as seconds
use Rattle.cell_terms.specs.declared.term.Term.{Term}
use Rattle.cell_terms.specs.declared.term.Term.TheVariants as terms
use Rattle.frag_plan.specs.Plan.{Line, lay, reserve, ask, same, range, Plan, line, test, exit, change_after}

-- The names and numbers of a plan are small where ap has moved d cells: own cells are near ap, and arguments are named where ap
-- has moved at most 2 ^ 14 cells.
abbrev pub IsSmallSlot : ℕ → Slot → Type 0
IsSmallSlot d (slots.Own k) = (k ≤ d + 2 ^ 14) × (d ≤ k + 2 ^ 14)
IsSmallSlot d (slots.Arg i) = d ≤ 2 ^ 14
IsSmallSlot d (slots.Frame k) = k ≤ 2 ^ 14

abbrev pub IsSmallSecond : ℕ → Second → Type 0
IsSmallSecond d (seconds.Slot n) = IsSmallSlot d n
IsSmallSecond d (seconds.Number k) = Unit {0}

abbrev pub IsSmallTerm : ℕ → Term → Type 0
IsSmallTerm d (terms.Whole i) = d ≤ 2 ^ 14
IsSmallTerm d (terms.Cell n) = IsSmallSlot d n
IsSmallTerm d (terms.Behind n k) = IsSmallSlot d n × (k ≤ 2 ^ 14)
IsSmallTerm d (terms.Word k) = Unit {0}
IsSmallTerm d (terms.Add n o) = IsSmallSlot d n × IsSmallSecond d o
IsSmallTerm d (terms.Sub n o) = IsSmallSlot d n × IsSmallSecond d o
IsSmallTerm d (terms.Mul n o) = IsSmallSlot d n × IsSmallSecond d o

abbrev pub IsSmallLine : ℕ → Line → Type 0
IsSmallLine d (lay t) = IsSmallTerm d t
IsSmallLine d (reserve k) = Unit {0}
IsSmallLine d (ask n k) = IsSmallSlot d n
IsSmallLine d (same n t) = IsSmallSlot d n × IsSmallTerm d t
IsSmallLine d (range p k n) = IsSmallSlot d p × (k ≤ 2 ^ 14) × IsSmallSlot d n

-- each line and test is small
abbrev pub IsSmallPlan : ℕ → Plan → Type 0
IsSmallPlan d (line a p) = IsSmallLine d a × IsSmallPlan (change_after a d) p
IsSmallPlan d (test n p q) = IsSmallSlot d n × IsSmallPlan d p × IsSmallPlan d q
IsSmallPlan d (exit k) = Unit {0}
