-- What the statements of a program say, and where they lead.
use Rattle.std.specs.Prelude.{ℕ, ◌+◌, ◌==◌, Bool, true, false, List, [], ◌∷◌, map, count_by, Option, Some, None, option_map, unwrap_or}
use Rattle.std.specs.List.{slice_get}
use Rattle.std.specs.Option.{option_and_then}
use Rattle.sierra_types.specs.declared.program.Program.{Program}
use Rattle.sierra_types.specs.declared.program.Function.{Function}
use Rattle.sierra_types.specs.declared.program.Statement.{Statement}
use Rattle.sierra_types.specs.declared.program.Statement.TheVariants.{Invoke, Return}
use Rattle.sierra_types.specs.declared.program.Branch.{Branch}
use Rattle.sierra_types.specs.declared.program.Target.{Target}
use Rattle.sierra_types.specs.declared.program.Target.TheVariants.{Fallthrough, To}
use Rattle.type_table.specs.Naming.{place_of}
use Rattle.type_table.specs.View.{TypesView}
use Rattle.type_table.specs.declared.type_id.TypeId.{TypeId}
use Rattle.libfunc_registry.specs.declared.sig.Sig.{Sig}
use Rattle.libfunc_registry.specs.declared.libfunc.Libfunc.{Libfunc}
use Rattle.libfunc_registry.specs.declared.libfunc.Libfunc.TheVariants.{BranchAlign, Jump}
use Rattle.held_list.specs.Held.{Held}
use Rattle.held_list.specs.Editing.{add}

-- the signature of the libfunc that is declared with this id; `sigs` are those of the declared libfuncs, in order
abbrev pub declared : Program → List Sig → List ℕ → Option Sig
declared p sigs id = option_and_then (slice_get sigs) (place_of (map (λ d. d.id) p.libfuncs) id)

-- where a branch of statement s leads
abbrev pub target_of : ℕ → Target → ℕ
target_of s Fallthrough = s + 1
target_of s (To t) = t

abbrev pub targets_of : ℕ → List Branch → List ℕ
targets_of s branches = map (λ b. target_of s b.target) branches

-- where statement s leads
abbrev pub leads_of : ℕ → Statement → List ℕ
leads_of s (Invoke id args branches) = targets_of s branches
leads_of s (Return args) = []

-- how many branches lead from these statements, the first of which is s, to t
abbrev pub branches_to : ℕ → ℕ → List Statement → ℕ
branches_to t s [] = 0
branches_to t s (statement ∷ more) = count_by (λ u. u == t) (leads_of s statement) + branches_to t (s + 1) more

-- all branches of all statements that lead to t, and all functions that begin there
abbrev pub predecessors : Program → ℕ → ℕ
predecessors p t = branches_to t 0 p.statements + count_by (λ (f : Function). f.entry == t) p.functions

abbrev pub is_jump : Libfunc → Bool
is_jump Jump = true
is_jump _ = false

abbrev pub is_branch_align : Libfunc → Bool
is_branch_align BranchAlign = true
is_branch_align _ = false

-- whether a statement is a `branch_align`
abbrev pub is_align : Program → List Sig → Option Statement → Bool
is_align p sigs None = false
is_align p sigs (Some (Return args)) = false
is_align p sigs (Some (Invoke id args branches)) = unwrap_or (option_map (λ sig. is_branch_align sig.libfunc) (declared p sigs id)) false

-- the types of a function's parameters
abbrev pub param_types : TypesView → ℕ → List TypeId
param_types t f = unwrap_or (option_map (λ g. g.params) (slice_get t.functions f)) []

-- the types of a function's results
abbrev pub result_types : TypesView → ℕ → List TypeId
result_types t f = unwrap_or (option_map (λ g. g.results) (slice_get t.functions f)) []

-- the variables of a function's parameters, in order
abbrev pub variables : Function → List ℕ
variables f = map (λ x. x.0) f.params

-- These variables, of these types, are added to what is held. Where a variable is held already, nothing is added; the
-- parameters of a function that is accepted differ.
abbrev pub held_with : Held TypeId → List ℕ → List TypeId → Held TypeId
held_with held [] types = held
held_with held (v ∷ vs) [] = held
held_with held (v ∷ vs) (t ∷ ts) = held_with (unwrap_or (add v t held) held) vs ts

-- a function's parameters, of these types
abbrev pub parameters : Function → List TypeId → Held TypeId
parameters f types = held_with [] (variables f) types
