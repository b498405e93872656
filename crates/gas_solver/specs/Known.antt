-- What the linear check has found of each statement, as far as its terms ask for it.
use Rattle.std.specs.Prelude.{◌≡◌, ℕ, ◌<◌, List, length, map, Some}
use Rattle.std.specs.List.{slice_get}
use Rattle.sierra_types.specs.declared.program.Program.{Program}
use Rattle.sierra_types.specs.declared.program.Statement.{Statement}
use Rattle.sierra_types.specs.declared.program.Statement.TheVariants.{Invoke, Return}
use Rattle.sierra_types.specs.declared.program.Branch.{Branch}
use Rattle.type_table.specs.Lookups.{found}
use Rattle.type_table.specs.Naming.{place_of}
use Rattle.type_table.specs.View.{TypesView}
use Rattle.libfunc_registry.specs.declared.sig.Sig.{Sig}
use Rattle.libfunc_registry.specs.declared.libfunc.Libfunc.{Libfunc}
use Rattle.libfunc_registry.specs.declared.libfunc.Libfunc.TheVariants.{FunctionCall}
use Rattle.cost_table.specs.Fits.{IsSignature}
use Rattle.linear_check.specs.Statements.{declared, target_of}
use Rattle.gas_solver.specs.Terms.{entry_of}

-- a callee is a function, and begins at a statement
abbrev pub IsCallable : Program → Libfunc → Type 0
IsCallable p (FunctionCall f) = (f < length p.functions) × (entry_of p f < length p.statements)
IsCallable p _ = Unit {0}

-- the branches of statement s are those of a signature, and lead to statements
pub record HasSignature (p : Program) (t : TypesView) (s : ℕ) (sig : Sig) (branches : List Branch) : Type 0 where
  pub signature : IsSignature t sig
  pub many : length branches ≡ length sig.branches
  pub inside : (k : ℕ) (b : Branch) → slice_get branches k ≡ Some b → target_of s b.target < length p.statements
  pub callable : IsCallable p sig.libfunc

abbrev pub IsKnown : Program → TypesView → List Sig → ℕ → Statement → Type 0
IsKnown p t sigs s (Return args) = Unit {0}
IsKnown p t sigs s (Invoke id args branches) = (sig : Sig) → declared p sigs id ≡ Some sig → HasSignature p t s sig branches

-- all that the terms of a program ask for
pub record IsPrepared (p : Program) (t : TypesView) (sigs : List Sig) (libfuncs : List (List ℕ × ℕ)) : Type 0 where
  pub named : (id : List ℕ) → found libfuncs id ≡ place_of (map (λ d. d.id) p.libfuncs) id
  pub known : (s : ℕ) (statement : Statement) → slice_get p.statements s ≡ Some statement → IsKnown p t sigs s statement
