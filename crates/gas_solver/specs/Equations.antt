-- What a statement needs by the needs of the statements where it leads, said of its branches.
use Rattle.std.specs.Prelude.{◌≡◌, ℕ, ◌+◌, max, List, [], ◌∷◌, Some, slice_get}
use Rattle.std.specs.Option.{option_map_or}
use Rattle.sierra_types.specs.declared.program.Program.{Program}
use Rattle.sierra_types.specs.declared.program.Statement.{Statement}
use Rattle.sierra_types.specs.declared.program.Statement.TheVariants.{Invoke, Return}
use Rattle.sierra_types.specs.declared.program.Branch.{Branch}
use Rattle.type_table.specs.View.{TypesView}
use Rattle.libfunc_registry.specs.declared.sig.Sig.{Sig}
use Rattle.libfunc_registry.specs.declared.libfunc.Libfunc.{Libfunc}
use Rattle.libfunc_registry.specs.declared.libfunc.Libfunc.TheVariants.{FunctionCall, WithdrawGas}
use Rattle.libfunc_registry.specs.Fam.{fam_of}
use Rattle.cost_table.specs.Costs.{charge}
use Rattle.cost_table.specs.Rows.{by_branch}
use Rattle.linear_check.specs.Statements.{declared, target_of}
use Rattle.gas_solver.specs.Terms.{entry_of}

-- what branch k comes to, with its charge and its target t: the charge and what the target needs. A call adds what its callee
-- needs, and a successful `withdraw_gas` comes to its charge alone.
abbrev pub branch_need : Program → (ℕ → ℕ) → Libfunc → (charged k t : ℕ) → ℕ
branch_need p need (FunctionCall f) charged k t = charged + need (entry_of p f) + need t
branch_need p need WithdrawGas charged k t = by_branch k charged (charged + need t)
branch_need p need _ charged k t = charged + need t

-- the greatest of the branches from k on
abbrev pub greatest : Program → TypesView → (ℕ → ℕ) → Sig → (s k : ℕ) → List Branch → ℕ
greatest p t need sig s k [] = 0
greatest p t need sig s k (b ∷ bs) = max (branch_need p need sig.libfunc (charge (fam_of t sig.libfunc) k) k (target_of s b.target)) (greatest p t need sig s (k + 1) bs)

abbrev pub statement_need : Program → TypesView → List Sig → (ℕ → ℕ) → ℕ → Statement → ℕ
statement_need p t sigs need s (Return args) = 100
statement_need p t sigs need s (Invoke id args branches) = option_map_or (λ sig. greatest p t need sig s 0 branches) (declared p sigs id) 0

-- The numbers meet the equations of a program.
abbrev pub MeetEquations : Program → TypesView → List Sig → (ℕ → ℕ) → Type 0
MeetEquations p t sigs need = (s : ℕ) (statement : Statement) → slice_get p.statements s ≡ Some statement → need s ≡ statement_need p t sigs need s statement
