-- What each statement of a program does: it takes its arguments out of the values that are held, does what its libfunc does,
-- and adds the results of the branch that is taken.
use Rattle.std.specs.Prelude.{◌≡◌, ℕ, List, [], ◌∷◌, Option, Some, None, Ok, slice_get, zip}
use Rattle.std.specs.Option.{unwrap_or}
use Rattle.sierra_types.specs.declared.program.Statement.{Statement}
use Rattle.sierra_types.specs.declared.program.Statement.TheVariants.{Invoke, Return}
use Rattle.sierra_types.specs.declared.program.Branch.{Branch}
use Rattle.sierra_types.specs.declared.program.Function.{Function}
use Rattle.libfunc_registry.specs.declared.sig.Sig.{Sig}
use Rattle.libfunc_registry.specs.declared.libfunc.Libfunc.{Libfunc}
use Rattle.libfunc_registry.specs.declared.libfunc.Libfunc.TheVariants.{FunctionCall}
use Rattle.libfunc_registry.specs.Fam.{Fam, fam_of}
use Rattle.cost_table.specs.Costs.{charge}
use Rattle.held_list.specs.Held.{Held}
use Rattle.held_list.specs.Editing.{take_all, add_all}
use Rattle.linear_check.specs.Statements.{declared, target_of, variables}
use Rattle.gas_solver.specs.Accepting.{AcceptedView}
use Rattle.gas_solver.specs.Plans.{amount_in}
use Rattle.gas_solver.specs.Terms as terms
use Rattle.value_trees.specs.Val.{Val}
use Rattle.libfunc_meaning.specs.Dictionaries.{Dictionary}
use Rattle.libfunc_meaning.specs.Do.{Do}
use Rattle.sierra_meaning.specs.Mean.{Action, returns, goes, calls}

-- the function that is called
abbrev pub callee_of : Libfunc → Option ℕ
callee_of (FunctionCall f) = Some f
callee_of _ = None

-- where a function begins
abbrev pub begins_at : AcceptedView → ℕ → ℕ
begins_at a f = terms.entry_of a.program f

-- what a successful `withdraw_gas` at statement s takes
abbrev pub amount_at : AcceptedView → ℕ → ℕ
amount_at a s = unwrap_or (amount_in a.plan s) 0

-- A call: the arguments are the callee's parameters, and its one branch says what the results become, and what is next.
pub record Calls {V : Type 0} (a : AcceptedView) (f s : ℕ) (vs : List V) (branches : List Branch) (args : Held V) (names : List ℕ) (next : ℕ) : Type 0 where
  pub callee : Function
  pub called : slice_get a.program.functions f ≡ Some callee
  pub given : add_all (zip (variables callee) vs) [] ≡ Ok args
  pub branch : Branch
  pub one : branches ≡ branch ∷ []
  pub named : names ≡ branch.results
  pub goes_to : next ≡ target_of s branch.target

module _ {D E : Type 0} (dictionary : Dictionary D E) (a : AcceptedView) where
  -- A libfunc: it takes a branch, whose results are added under the branch's names.
  pub record Goes (fam : Fam) (s : ℕ) (vs : List (Val D E)) (rest : Held (Val D E)) (branches : List Branch) (cost next : ℕ) (more : Held (Val D E)) : Type 0 where
    pub k : ℕ
    pub results : List (Val D E)
    pub does : Do dictionary fam vs (amount_at a s) k results
    pub branch : Branch
    pub taken : slice_get branches k ≡ Some branch
    pub added : add_all (zip branch.results results) rest ≡ Ok more
    pub charged : cost ≡ charge fam k
    pub goes_to : next ≡ target_of s branch.target

  -- with these arguments and this rest, by whether a function is called
  abbrev pub InvokeActs : Option ℕ → Fam → ℕ → List (Val D E) → Held (Val D E) → List Branch → Action (Val D E) → Type 0
  InvokeActs (Some f) fam s vs rest branches (calls g args held names next) = (g ≡ f) × (held ≡ rest) × Calls a f s vs branches args names next
  InvokeActs None fam s vs rest branches (goes cost next more) = Goes fam s vs rest branches cost next more
  InvokeActs _ fam s vs rest branches action = ⊥

  -- the libfunc's arguments are taken out, and the rest stays
  pub record ActsByLibfunc (s : ℕ) (id args : List ℕ) (branches : List Branch) (env : Held (Val D E)) (action : Action (Val D E)) : Type 0 where
    pub sig : Sig
    pub declared_as : declared a.program a.sigs id ≡ Some sig
    pub vs : List (Val D E)
    pub rest : Held (Val D E)
    pub takes : take_all args env ≡ Ok (vs, rest)
    pub acts : InvokeActs (callee_of sig.libfunc) (fam_of a.types sig.libfunc) s vs rest branches action

  abbrev pub StatementActs : ℕ → Statement → Held (Val D E) → Action (Val D E) → Type 0
  StatementActs s (Return args) env (returns results) = take_all args env ≡ Ok (results, [])
  StatementActs s (Return args) env _ = ⊥
  StatementActs s (Invoke id args branches) env action = ActsByLibfunc s id args branches env action

  -- statement s does so with these values
  abbrev pub Acts : ℕ → Held (Val D E) → Action (Val D E) → Type 0
  Acts s env action = (statement : Statement) × (slice_get a.program.statements s ≡ Some statement) × StatementActs s statement env action
