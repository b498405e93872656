-- Where a statement leads, apart from the success branch of `withdraw_gas`. A cycle that has no such branch is a cycle of
-- these edges.
use Rattle.std.specs.Prelude.{◌≡◌, ◌≢◌, ◌⊎◌, ℕ, List, Some, slice_get}
use Rattle.sierra_types.specs.declared.program.Program.{Program}
use Rattle.sierra_types.specs.declared.program.Statement.TheVariants.{Invoke}
use Rattle.sierra_types.specs.declared.program.Branch.{Branch}
use Rattle.libfunc_registry.specs.declared.sig.Sig.{Sig}
use Rattle.libfunc_registry.specs.declared.libfunc.Libfunc.{Libfunc}
use Rattle.libfunc_registry.specs.declared.libfunc.Libfunc.TheVariants.{FunctionCall, WithdrawGas}
use Rattle.linear_check.specs.Statements.{declared, target_of}
use Rattle.gas_solver.specs.Terms.{entry_of}

-- Branch k of a libfunc, whose target is statement t, leads to u. A call leads to its callee's entry too, and the success
-- branch of `withdraw_gas`, which is branch 0, doesn't count.
abbrev pub BranchLeads : Program → Libfunc → (k t u : ℕ) → Type 0
BranchLeads p (FunctionCall f) k t u = (u ≡ entry_of p f) ⊎ (u ≡ t)
BranchLeads p WithdrawGas k t u = (k ≢ 0) × (u ≡ t)
BranchLeads p _ k t u = u ≡ t

-- some branch of statement s leads to u
pub record StatementLeads (p : Program) (sigs : List Sig) (s u : ℕ) : Type 0 where
  pub id : List ℕ
  pub args : List ℕ
  pub branches : List Branch
  pub here : slice_get p.statements s ≡ Some (Invoke id args branches)
  pub sig : Sig
  pub declared_as : declared p sigs id ≡ Some sig
  pub k : ℕ
  pub branch : Branch
  pub at : slice_get branches k ≡ Some branch
  pub leads : BranchLeads p sig.libfunc k (target_of s branch.target) u
