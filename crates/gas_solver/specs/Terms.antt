-- The terms of each statement of a program. What a statement needs is the greatest of them: of a term's gas and the needs of
-- the statements where it leads.
use Rattle.std.specs.Prelude.{ℕ, ◌+◌, List, [], ◌∷◌, slice_get}
use Rattle.std.specs.Option.{option_map_or}
use Rattle.sierra_types.specs.declared.program.Program.{Program}
use Rattle.sierra_types.specs.declared.program.Function.{Function}
use Rattle.sierra_types.specs.declared.program.Statement.{Statement}
use Rattle.sierra_types.specs.declared.program.Statement.TheVariants.{Invoke, Return}
use Rattle.sierra_types.specs.declared.program.Branch.{Branch}
use Rattle.type_table.specs.View.{TypesView}
use Rattle.libfunc_registry.specs.declared.sig.Sig.{Sig}
use Rattle.libfunc_registry.specs.declared.libfunc.Libfunc.{Libfunc}
use Rattle.libfunc_registry.specs.declared.libfunc.Libfunc.TheVariants.{FunctionCall, WithdrawGas}
use Rattle.libfunc_registry.specs.Fam.{fam_of}
use Rattle.cost_table.specs.Costs.{charge}
use Rattle.cost_table.specs.Rows.{by_branch}
use Rattle.linear_check.specs.Statements.{declared, target_of}
use Rattle.least_needs.specs.declared.terms.Targets.{Targets}
use Rattle.least_needs.specs.declared.terms.Targets.TheVariants.{Nowhere, One, Two}
use Rattle.least_needs.specs.declared.terms.Term.{Term}

-- the statement that a function begins with
abbrev pub entry_of : Program → ℕ → ℕ
entry_of p f = option_map_or (λ (g : Function). g.entry) (slice_get p.functions f) 0

-- Where branch k of a libfunc leads, if its target is statement t. A call needs what its callee needs, and then what the next
-- statement needs. What the target of a successful `withdraw_gas`, which is branch 0, needs is withdrawn there.
abbrev pub branch_targets : Program → Libfunc → (k t : ℕ) → Targets
branch_targets p (FunctionCall f) k t = Two (entry_of p f) t
branch_targets p WithdrawGas k t = by_branch k Nowhere (One t)
branch_targets p _ k t = One t

-- the term of branch k of statement s
abbrev pub branch_term : Program → TypesView → Sig → (s k : ℕ) → Branch → Term
branch_term p t sig s k b = record { cost = charge (fam_of t sig.libfunc) k; targets = branch_targets p sig.libfunc k (target_of s b.target) }

-- the terms of the branches from k on
abbrev pub branch_terms : Program → TypesView → Sig → (s k : ℕ) → List Branch → List Term
branch_terms p t sig s k [] = []
branch_terms p t sig s k (b ∷ bs) = branch_term p t sig s k b ∷ branch_terms p t sig s (k + 1) bs

-- a return takes one step
abbrev pub return_term : Term
return_term = record { cost = 100; targets = Nowhere }

-- the terms of statement s
abbrev pub statement_terms : Program → TypesView → List Sig → ℕ → Statement → List Term
statement_terms p t sigs s (Return args) = return_term ∷ []
statement_terms p t sigs s (Invoke id args branches) = option_map_or (λ sig. branch_terms p t sig s 0 branches) (declared p sigs id) []

-- the terms of statements, the first of which is s
abbrev pub terms_from : Program → TypesView → List Sig → ℕ → List Statement → List (List Term)
terms_from p t sigs s [] = []
terms_from p t sigs s (statement ∷ more) = statement_terms p t sigs s statement ∷ terms_from p t sigs (s + 1) more

-- the terms of all statements of a program
abbrev pub program_terms : Program → TypesView → List Sig → List (List Term)
program_terms p t sigs = terms_from p t sigs 0 p.statements
