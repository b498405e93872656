-- The text of a gas plan: a line for what a run needs to begin, and then one for each statement.
use Rattle.std.specs.Prelude.{◌≡◌, ℕ, ◌+◌, ◌^◌, ◌<◌, ◌++◌, List, [], ◌∷◌, length, Option, Some, None, codes, decimal}
use Rattle.std.specs.List.{AllByRecursion, concat}
use Rattle.gas_solver.specs.Plans.{PlanView}

abbrev pub entry_line : ℕ → List ℕ
entry_line entry = concat (codes "entry " ∷ decimal entry ∷ codes "\n" ∷ [])

-- the line of a statement, with its amount if it has one
abbrev pub statement_line : ℕ → ℕ → Option ℕ → List ℕ
statement_line s need None = concat (decimal s ∷ codes " need " ∷ decimal need ∷ codes "\n" ∷ [])
statement_line s need (Some amount) = concat (decimal s ∷ codes " need " ∷ decimal need ∷ codes " amount " ∷ decimal amount ∷ codes "\n" ∷ [])

-- the lines of statements, the first of which is s
abbrev pub statement_lines : ℕ → List ℕ → List (Option ℕ) → List ℕ
statement_lines s [] amounts = []
statement_lines s (need ∷ needs) [] = []
statement_lines s (need ∷ needs) (amount ∷ amounts) = statement_line s need amount ++ statement_lines (s + 1) needs amounts

abbrev pub plan_text : PlanView → List ℕ
plan_text plan = entry_line plan.entry ++ statement_lines 0 plan.need plan.amount

-- a number of 64 bits, or none
abbrev pub IsWordOrNone : Option ℕ → Type 0
IsWordOrNone None = Unit {0}
IsWordOrNone (Some n) = n < 2 ^ 64

-- what a plan's type keeps: its lists have one length, and its numbers have 64 bits
pub record HasWords (plan : PlanView) : Type 0 where
  pub one_length : length plan.amount ≡ length plan.need
  pub needs : AllByRecursion (λ n. n < 2 ^ 64) plan.need
  pub amounts : AllByRecursion IsWordOrNone plan.amount
  pub entry : plan.entry < 2 ^ 64

-- the end of a statement's line
abbrev pub line_end : Option ℕ → List ℕ
line_end None = codes "\n"
line_end (Some amount) = codes " amount " ++ decimal amount ++ codes "\n"
