-- Statements that leave each variable with its value: they take none, or give one back under its own name.
use Rattle.std.specs.Prelude.{◌≡◌, ℕ, ◌==◌, Bool, true, false, List, [], ◌∷◌, length, Option, Some, None, slice_get, if◌then◌else◌}
use Rattle.std.specs.Option.{option_and_then}
use Rattle.sierra_types.specs.declared.program.Statement.{Statement}
use Rattle.sierra_types.specs.declared.program.Statement.TheVariants.{Invoke, Return}
use Rattle.sierra_types.specs.declared.program.Branch.{Branch}
use Rattle.sierra_types.specs.declared.program.Target.{Target}
use Rattle.type_table.specs.Lookups.{found}
use Rattle.libfunc_registry.specs.declared.sig.Sig.{Sig}
use Rattle.libfunc_registry.specs.declared.libfunc.Libfunc.{Libfunc}
use Rattle.libfunc_registry.specs.declared.libfunc.Libfunc.TheVariants.{BranchAlign, Jump, Rename, StoreTemp, FinalizeLocals, DisableApTracking, EnableApTracking, UnwrapNonZero}
use Rattle.linear_check.specs.Statements.{declared}
use Rattle.gas_solver.specs.Accepting.{AcceptedView}

-- it has one branch, whose results are its arguments
abbrev pub gives_back : Libfunc → Bool
gives_back BranchAlign = true
gives_back Jump = true
gives_back (Rename t) = true
gives_back (StoreTemp t) = true
gives_back FinalizeLocals = true
gives_back DisableApTracking = true
gives_back EnableApTracking = true
gives_back (UnwrapNonZero num) = true
gives_back _ = false

-- both have none, or one and the same
abbrev pub few_alike : List ℕ → List ℕ → Bool
few_alike [] [] = true
few_alike [] (y ∷ ys) = false
few_alike (x ∷ xs) [] = false
few_alike (x ∷ []) (y ∷ []) = x == y
few_alike (x ∷ []) (y ∷ z ∷ ys) = false
few_alike (x ∷ w ∷ xs) (y ∷ ys) = false

-- where the one branch leads, if the variables that it gives are those that are taken
abbrev pub idle_branch : List ℕ → List Branch → Option Target
idle_branch args [] = None
idle_branch args (branch ∷ []) = if few_alike args branch.results then Some branch.target else None
idle_branch args (branch ∷ other ∷ more) = None

abbrev pub idle_by : Option Sig → List ℕ → List Branch → Option Target
idle_by None args branches = None
idle_by (Some sig) args branches = if gives_back sig.libfunc then idle_branch args branches else None

-- where the statement leads, if it leaves each variable with its value
abbrev pub idle_in : List (List ℕ × ℕ) → List Sig → Statement → Option Target
idle_in positions sigs (Invoke id args branches) = idle_by (option_and_then (slice_get sigs) (found positions id)) args branches
idle_in positions sigs (Return args) = None

-- statement s leaves each variable with its value, and leads to t
pub record IsIdle (a : AcceptedView) (s : ℕ) (t : Target) : Type 0 where
  pub id : List ℕ
  pub args : List ℕ
  pub branch : Branch
  pub sig : Sig
  pub here : slice_get a.program.statements s ≡ Some (Invoke id args (branch ∷ []))
  pub declared_as : declared a.program a.sigs id ≡ Some sig
  pub back : gives_back sig.libfunc ≡ true
  pub alike : few_alike args branch.results ≡ true
  pub leads : t ≡ branch.target

-- there is one for each statement, and those that are told are such
pub record AreIdle (a : AcceptedView) (idle : List (Option Target)) : Type 0 where
  pub all : length idle ≡ length a.program.statements
  pub each : (s : ℕ) (t : Target) → slice_get idle s ≡ Some (Some t) → IsIdle a s t
