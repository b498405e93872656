-- The gas plan of a program: what each statement needs, what each `withdraw_gas` takes, and what main needs with its call.
use Rattle.std.specs.Prelude.{◌≡◌, ℕ, ◌+◌, ◌<◌, List, [], ◌∷◌, Option, Some, None, slice_get, slice_index}
use Rattle.std.specs.Option.{option_and_then, unwrap_or}
use Rattle.sierra_types.specs.declared.program.Program.{Program}
use Rattle.sierra_types.specs.declared.program.Statement.{Statement}
use Rattle.sierra_types.specs.declared.program.Statement.TheVariants.{Invoke, Return}
use Rattle.sierra_types.specs.declared.program.Branch.{Branch}
use Rattle.type_table.specs.View.{TypesView}
use Rattle.libfunc_registry.specs.declared.sig.Sig.{Sig}
use Rattle.libfunc_registry.specs.declared.libfunc.Libfunc.{Libfunc}
use Rattle.libfunc_registry.specs.declared.libfunc.Libfunc.TheVariants.{WithdrawGas}
use Rattle.linear_check.specs.Statements.{declared, target_of}
use Rattle.least_needs.specs.Needs.{limit}
use Rattle.least_needs.specs.Answers.{AreSmallNeeds}
use Rattle.gas_solver.specs.Terms.{entry_of, program_terms}

-- what a plan has: a need and, at `withdraw_gas`, an amount for each statement; and the gas that a run needs to begin
pub record PlanView : Type 0 where
  pub need : List ℕ
  pub amount : List (Option ℕ)
  pub entry : ℕ

-- the amount of statement s in a plan
abbrev pub amount_in : PlanView → ℕ → Option ℕ
amount_in plan s = unwrap_or (slice_get plan.amount s) None

-- what `withdraw_gas` takes where it succeeds: the need of its success target, to which branch 0 leads
abbrev pub amount_by : (ℕ → ℕ) → ℕ → List Branch → Libfunc → Option ℕ
amount_by need s [] libfunc = None
amount_by need s (b ∷ bs) WithdrawGas = Some (need (target_of s b.target))
amount_by need s (b ∷ bs) _ = None

-- the amount of statement s
abbrev pub amount_of : Program → List Sig → (ℕ → ℕ) → ℕ → Statement → Option ℕ
amount_of p sigs need s (Return args) = None
amount_of p sigs need s (Invoke id args branches) = option_and_then (λ sig. amount_by need s branches sig.libfunc) (declared p sigs id)

-- the amounts of statements, the first of which is s
abbrev pub amounts_from : Program → List Sig → (ℕ → ℕ) → ℕ → List Statement → List (Option ℕ)
amounts_from p sigs need s [] = []
amounts_from p sigs need s (statement ∷ more) = amount_of p sigs need s statement ∷ amounts_from p sigs need (s + 1) more

-- the gas of the call of main and of all that main needs
abbrev pub entry_need : Program → (ℕ → ℕ) → ℕ → ℕ
entry_need p need main = 100 + need (entry_of p main)

-- The plan has the least needs, of which each is small enough, as is what a run needs to begin.
pub record IsPlan (p : Program) (t : TypesView) (sigs : List Sig) (main : ℕ) (plan : PlanView) : Type 0 where
  pub needs : AreSmallNeeds (program_terms p t sigs) plan.need
  pub amounts : plan.amount ≡ amounts_from p sigs (slice_index plan.need) 0 p.statements
  pub entry : plan.entry ≡ entry_need p (slice_index plan.need) main
  pub small : plan.entry < limit
