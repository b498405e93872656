-- Linear typing: each statement takes its arguments out of the held variables, and each branch adds its results.
use Rattle.std.specs.Prelude.{◌≡◌, ℕ, ◌<◌, ◌≤◌, Bool, true, false, IsTrue, List, [], ◌∷◌, length, map, Some}
use Rattle.std.specs.List.{slice_get, AllByRecursion, AllZip}
use Rattle.sierra_types.specs.declared.program.Program.{Program}
use Rattle.sierra_types.specs.declared.program.Function.{Function}
use Rattle.sierra_types.specs.declared.program.Statement.{Statement}
use Rattle.sierra_types.specs.declared.program.Statement.TheVariants.{Invoke, Return}
use Rattle.sierra_types.specs.declared.program.Branch.{Branch}
use Rattle.sierra_types.specs.declared.program.Target.{Target}
use Rattle.sierra_types.specs.declared.program.Target.TheVariants.{Fallthrough, To}
use Rattle.type_table.specs.View.{TypesView, FunctionView}
use Rattle.type_table.specs.declared.type_id.TypeId.{TypeId}
use Rattle.libfunc_registry.specs.declared.sig.Sig.{Sig}
use Rattle.held_list.specs.Held.{Held}
use Rattle.held_list.specs.Editing.{take, add}
use Rattle.linear_check.specs.Statements.{declared, target_of, leads_of, predecessors, is_jump, is_align, result_types, variables}

-- the function of each statement, and its variables with their types
abbrev pub TypedList : Type 0
TypedList = List (ℕ × Held TypeId)

-- These variables, of these types, are taken out one after another, and the rest stays.
abbrev pub Takes : List ℕ → List TypeId → Held TypeId → Held TypeId → Type 0
Takes [] [] held rest = held ≡ rest
Takes [] (t ∷ ts) held rest = ⊥
Takes (v ∷ vs) [] held rest = ⊥
Takes (v ∷ vs) (t ∷ ts) held rest = (left : Held TypeId) × (take v held ≡ Some (t, left)) × Takes vs ts left rest

-- These variables, of these types, are added one after another.
abbrev pub Adds : List ℕ → List TypeId → Held TypeId → Held TypeId → Type 0
Adds [] [] rest held = rest ≡ held
Adds [] (t ∷ ts) rest held = ⊥
Adds (v ∷ vs) [] rest held = ⊥
Adds (v ∷ vs) (t ∷ ts) rest held = (more : Held TypeId) × (add v t rest ≡ Some more) × Adds vs ts more held

abbrev pub HasNumber : Target → Type 0
HasNumber Fallthrough = ⊥
HasNumber (To t) = Unit {0}

-- Branch 0 of several falls through and the others don't; a single branch has a number if and only if it is a jump's.
abbrev pub FallsThrough : Bool → List Target → Type 0
FallsThrough jumps [] = Unit {0}
FallsThrough true (t ∷ []) = HasNumber t
FallsThrough false (t ∷ []) = t ≡ Fallthrough
FallsThrough jumps (t ∷ u ∷ ts) = (t ≡ Fallthrough) × AllByRecursion HasNumber (u ∷ ts)

-- A statement has as many arguments, branches and results as its libfunc's signature, and leads to statements.
pub record IsShaped (size s : ℕ) (sig : Sig) (args : List ℕ) (branches : List Branch) : Type 0 where
  pub arguments : length args ≡ length sig.params
  pub results : AllZip (λ b ts. length b.results ≡ length ts) branches sig.branches
  pub falls_through : FallsThrough (is_jump sig.libfunc) (map (λ b. b.target) branches)
  pub inside : AllByRecursion (λ b. target_of s b.target < size) branches

-- each branch adds its results and so gives its target's variables, which are those of the same function
abbrev pub Gives : TypedList → ℕ → ℕ → Held TypeId → Branch → List TypeId → Type 0
Gives a f s rest b types = (held : Held TypeId) × Adds b.results types rest held × (slice_get a (target_of s b.target) ≡ Some (f, held))

-- a branch leads to a `branch_align` that has no other predecessor
abbrev pub IsAligned : Program → List Sig → ℕ → Branch → Type 0
IsAligned p sigs s b = IsTrue (is_align p sigs (slice_get p.statements (target_of s b.target))) × (predecessors p (target_of s b.target) ≡ 1)

-- the branches of a libfunc's statement
pub record Invokes (p : Program) (sigs : List Sig) (a : TypedList) (f s : ℕ) (held : Held TypeId) (id : List ℕ) (args : List ℕ) (branches : List Branch) : Type 0 where
  pub sig : Sig
  pub declared_as : declared p sigs id ≡ Some sig
  pub shaped : IsShaped (length p.statements) s sig args branches
  pub rest : Held TypeId
  pub takes : Takes args sig.params held rest
  pub gives : AllZip (Gives a f s rest) branches sig.branches
  pub aligned : 2 ≤ length branches → AllByRecursion (IsAligned p sigs s) branches

-- what holds of statement s with a function and variables
abbrev pub IsTypedAt : Program → TypesView → List Sig → TypedList → ℕ → ℕ → Held TypeId → Statement → Type 0
IsTypedAt p t sigs a s f held (Return args) = Takes args (result_types t f) held []
IsTypedAt p t sigs a s f held (Invoke id args branches) = Invokes p sigs a f s held id args branches

-- the statement is a function's entry, or a branch leads from one that is reached to it
pub data IsReached (p : Program) : ℕ → Type 0 where
  entry : (f : ℕ) (g : Function) → slice_get p.functions f ≡ Some g → IsReached p g.entry
  along : (k s t : ℕ) (statement : Statement) → IsReached p s → slice_get p.statements s ≡ Some statement → slice_get (leads_of s statement) k ≡ Some t → IsReached p t

-- A function's entry is the function's, and has its parameters, with their types.
abbrev pub HasParameters : TypedList → ℕ → Function → FunctionView → Type 0
HasParameters a f g types = (held : Held TypeId) × Adds (variables g) types.params [] held × (slice_get a g.entry ≡ Some (f, held))

-- The list gives each statement one function and one set of typed variables.
pub record Typed (p : Program) (t : TypesView) (sigs : List Sig) (a : TypedList) : Type 0 where
  pub long : length a ≡ length p.statements
  pub entries : (f : ℕ) (g : Function) (types : FunctionView) → slice_get p.functions f ≡ Some g → slice_get t.functions f ≡ Some types → HasParameters a f g types
  pub statements : (s f : ℕ) (held : Held TypeId) (statement : Statement) → slice_get p.statements s ≡ Some statement → slice_get a s ≡ Some (f, held) → IsTypedAt p t sigs a s f held statement
  pub reached : (s : ℕ) → s < length p.statements → IsReached p s
