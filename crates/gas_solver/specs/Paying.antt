-- What each statement is worth pays for its branches.
use Rattle.std.specs.Prelude.{◌≡◌, ◌⊎◌, ℕ, ◌+◌, ◌≤◌, List, Option, Some, slice_get}
use Rattle.std.specs.Option.{unwrap_or}
use Rattle.sierra_types.specs.declared.program.Program.{Program}
use Rattle.sierra_types.specs.declared.program.Statement.TheVariants.{Invoke, Return}
use Rattle.sierra_types.specs.declared.program.Branch.{Branch}
use Rattle.type_table.specs.View.{TypesView}
use Rattle.libfunc_registry.specs.declared.sig.Sig.{Sig}
use Rattle.libfunc_registry.specs.declared.libfunc.Libfunc.{Libfunc}
use Rattle.libfunc_registry.specs.declared.libfunc.Libfunc.TheVariants.{FunctionCall, WithdrawGas}
use Rattle.libfunc_registry.specs.Fam.{fam_of}
use Rattle.cost_table.specs.Costs.{charge}
use Rattle.cost_table.specs.Rows.{by_branch}
use Rattle.linear_check.specs.Statements.{declared, target_of}
use Rattle.gas_solver.specs.Terms.{entry_of}

-- what statement s, which is worth so much and has this amount, pays where it goes by branch k to statement t: the charge and
-- what t is worth; in a call what the callee's entry is worth too. A successful `withdraw_gas` has the amount besides.
abbrev pub PaysFor : Program → (ℕ → ℕ) → Libfunc → (charged k s amount t : ℕ) → Type 0
PaysFor p worth (FunctionCall f) charged k s amount t = charged + worth (entry_of p f) + worth t ≤ worth s
PaysFor p worth WithdrawGas charged k s amount t = charged + worth t ≤ worth s + by_branch k amount 0
PaysFor p worth _ charged k s amount t = charged + worth t ≤ worth s

-- Each statement pays for its branches. What is free leads to the next statement.
pub record Pays (p : Program) (t : TypesView) (sigs : List Sig) (amount : ℕ → Option ℕ) (worth : ℕ → ℕ) : Type 0 where
  pub branches : (s : ℕ) (id args : List ℕ) (branches : List Branch) (sig : Sig) (k : ℕ) (b : Branch) → slice_get p.statements s ≡ Some (Invoke id args branches)
      → declared p sigs id ≡ Some sig → slice_get branches k ≡ Some b
      → PaysFor p worth sig.libfunc (charge (fam_of t sig.libfunc) k) k s (unwrap_or (amount s) 0) (target_of s b.target)
  pub returns : (s : ℕ) (args : List ℕ) → slice_get p.statements s ≡ Some (Return args) → 100 ≤ worth s
  pub free : (s : ℕ) (id args : List ℕ) (branches : List Branch) (sig : Sig) (k : ℕ) (b : Branch) → slice_get p.statements s ≡ Some (Invoke id args branches)
      → declared p sigs id ≡ Some sig → slice_get branches k ≡ Some b
      → ((charge (fam_of t sig.libfunc) k ≡ 0) × (target_of s b.target ≡ s + 1)) ⊎ (10 ≤ charge (fam_of t sig.libfunc) k)
