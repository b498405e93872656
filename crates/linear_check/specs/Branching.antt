-- Statements with several branches.
use Rattle.std.specs.Prelude.{◌≡◌, ◌≢◌, ℕ, ◌≤◌, List, length, Some}
use Rattle.std.specs.List.{slice_get}
use Rattle.sierra_types.specs.declared.program.Program.{Program}
use Rattle.sierra_types.specs.declared.program.Function.{Function}
use Rattle.sierra_types.specs.declared.program.Statement.{Statement}
use Rattle.sierra_types.specs.declared.program.Statement.TheVariants.{Invoke}
use Rattle.sierra_types.specs.declared.program.Branch.{Branch}
use Rattle.linear_check.specs.Statements.{leads_of}

-- statement s has these branches, which are two or more
pub record HasBranches (p : Program) (s : ℕ) (branches : List Branch) : Type 0 where
  pub id : List ℕ
  pub args : List ℕ
  pub here : slice_get p.statements s ≡ Some (Invoke id args branches)
  pub several : 2 ≤ length branches

-- branch k of statement s alone leads to statement u, and no function begins there
pub record IsOnlyWayIn (p : Program) (s k u : ℕ) : Type 0 where
  pub one_branch : (r j : ℕ) (statement : Statement) → slice_get p.statements r ≡ Some statement → slice_get (leads_of r statement) j ≡ Some u → (r ≡ s) × (j ≡ k)
  pub no_entry : (f : ℕ) (g : Function) → slice_get p.functions f ≡ Some g → g.entry ≢ u
