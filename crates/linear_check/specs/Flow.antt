-- The rules of linear typing in their order, as the walk goes by them.
use Rattle.std.specs.Prelude.{ℕ, ◌+◌, ◌==◌, Bool, true, false, ◌&&◌, ◌||◌, not, nat_lt, nat_le, List, [], ◌∷◌, length, zip, Option, Some, None, option_map, unwrap_or, Result, Ok, Err}
use Rattle.std.specs.List.{slice_get, list_all}
use Rattle.std.specs.Result.{result_map_both}
use Rattle.sierra_types.specs.declared.program.Program.{Program}
use Rattle.sierra_types.specs.declared.program.Function.{Function}
use Rattle.sierra_types.specs.declared.program.Statement.{Statement}
use Rattle.sierra_types.specs.declared.program.Statement.TheVariants.{Invoke, Return}
use Rattle.sierra_types.specs.declared.program.Branch.{Branch}
use Rattle.sierra_types.specs.declared.program.Target.{Target}
use Rattle.sierra_types.specs.declared.program.Target.TheVariants.{Fallthrough, To}
use Rattle.type_table.specs.View.{TypesView}
use Rattle.type_table.specs.declared.type_id.TypeId.{TypeId}
use Rattle.libfunc_registry.specs.declared.sig.Sig.{Sig}
use Rattle.held_list.specs.Held.{Held}
use Rattle.held_list.specs.Editing.{take, add_all, differ, or_stop}
use Rattle.statement_walk.specs.Rules.{Rules}
use Rattle.statement_walk.specs.Walk.{and_then}
use Rattle.linear_check.specs.declared.fault.LinearFault.{LinearFault}
use Rattle.linear_check.specs.declared.fault.LinearFault.TheVariants.{VarMissing, VarType, VarLeft, VarTaken, MergeDiffers, AlignMissing, SharedStatement, Unreachable, Shape}
use Rattle.linear_check.specs.Statements.{declared, target_of, leads_of, predecessors, is_jump, is_align, param_types, result_types, parameters}

-- Passes where the test holds.
abbrev pub or_fault : Bool → LinearFault → Result (Unit {0}) LinearFault
or_fault true fault = Ok tt
or_fault false fault = Err fault

abbrev pub same_type : TypeId → TypeId → Bool
same_type a b = a.0 == b.0

-- what is held at a statement after its arguments, of these types, are taken
abbrev pub taken : ℕ → List ℕ → List TypeId → Held TypeId → Result (Held TypeId) LinearFault
taken s [] types held = Ok held
taken s (v ∷ vs) [] held = Ok held
taken s (v ∷ vs) (t ∷ ts) held =
    or_stop (take v held) (VarMissing s v) (λ x. and_then (or_fault (same_type x.0 t) (VarType s v)) (λ _. taken s vs ts x.1))

-- nothing is held any more
abbrev pub nothing_left : ℕ → Held TypeId → Result (Unit {0}) LinearFault
nothing_left s [] = Ok tt
nothing_left s (x ∷ xs) = Err (VarLeft s x.0)

-- what is held behind a branch that adds these results, of these types
abbrev pub added : ℕ → List ℕ → List TypeId → Held TypeId → Result (Held TypeId) LinearFault
added s vs ts rest = result_map_both (λ held. held) (VarTaken s) (add_all (zip vs ts) rest)

abbrev pub has_number : Target → Bool
has_number Fallthrough = false
has_number (To t) = true

-- whether branch 0 of several falls through and the others don't, and a single one has a number if and only if it is a jump's
abbrev pub falls_through : Bool → List Branch → Bool
falls_through jumps [] = true
falls_through true (b ∷ []) = has_number b.target
falls_through false (b ∷ []) = not (has_number b.target)
falls_through jumps (b ∷ c ∷ bs) = not (has_number b.target) && list_all (λ (b : Branch). has_number b.target) (c ∷ bs)

-- whether each branch has as many results as its types say
abbrev pub counts_agree : List Branch → List (List TypeId) → Bool
counts_agree [] [] = true
counts_agree [] (ts ∷ more) = false
counts_agree (b ∷ bs) [] = false
counts_agree (b ∷ bs) (ts ∷ more) = (length b.results == length ts) && counts_agree bs more

abbrev pub shaped : ℕ → ℕ → Sig → List ℕ → List Branch → Bool
shaped size s sig args branches =
    (length args == length sig.params) && (counts_agree branches sig.branches && (falls_through (is_jump sig.libfunc) branches && list_all (λ b. nat_lt (target_of s b.target) size) branches))

-- Of a statement with two or more branches the target is a `branch_align` with no other predecessor.
abbrev pub aligned : Program → List Sig → ℕ → Bool → ℕ → Result (Unit {0}) LinearFault
aligned p sigs s several t = or_fault (not several || (is_align p sigs (slice_get p.statements t) && (predecessors p t == 1))) (AlignMissing s)

-- one branch of a statement
abbrev pub branch_part : Program → List Sig → ℕ → Bool → Held TypeId → Branch → List TypeId → Result (ℕ × Held TypeId) LinearFault
branch_part p sigs s several rest b types =
    and_then (added s b.results types rest) (λ held. and_then (aligned p sigs s several (target_of s b.target)) (λ _. Ok (target_of s b.target, held)))

-- all branches of a statement
abbrev pub branch_parts : Program → List Sig → ℕ → Bool → Held TypeId → List Branch → List (List TypeId) → List (Result (ℕ × Held TypeId) LinearFault)
branch_parts p sigs s several rest [] types = []
branch_parts p sigs s several rest (b ∷ bs) [] = []
branch_parts p sigs s several rest (b ∷ bs) (ts ∷ more) = branch_part p sigs s several rest b ts ∷ branch_parts p sigs s several rest bs more

-- a fault before the branches is the only part
abbrev pub spread : {A F : Type 0} → Result (List (Result A F)) F → List (Result A F)
spread (Ok parts) = parts
spread (Err x) = Err x ∷ []

abbrev pub several : List Branch → Bool
several branches = nat_le 2 (length branches)

-- the end of a function whose results have these types
abbrev pub return_parts : ℕ → List ℕ → List TypeId → Held TypeId → Result (List (Result (ℕ × Held TypeId) LinearFault)) LinearFault
return_parts s args types held =
    and_then (or_fault (length args == length types) (Shape s)) (λ _. and_then (taken s args types held) (λ rest. and_then (nothing_left s rest) (λ _. Ok [])))

-- a libfunc's statement
abbrev pub invoke_parts : Program → List Sig → ℕ → List ℕ → List ℕ → List Branch → Held TypeId → Result (List (Result (ℕ × Held TypeId) LinearFault)) LinearFault
invoke_parts p sigs s id args branches held =
    or_stop (declared p sigs id) (Shape s) (λ sig. and_then (or_fault (shaped (length p.statements) s sig args branches) (Shape s)) (λ _. and_then (taken s args sig.params held) (λ rest.
    Ok (branch_parts p sigs s (several branches) rest branches sig.branches))))

-- a statement of a function, with what is held there
abbrev pub statement_flow : Program → TypesView → List Sig → ℕ → ℕ → Held TypeId → Option Statement → List (Result (ℕ × Held TypeId) LinearFault)
statement_flow p t sigs f s held None = []
statement_flow p t sigs f s held (Some (Return args)) = spread (return_parts s args (result_types t f) held)
statement_flow p t sigs f s held (Some (Invoke id args branches)) = spread (invoke_parts p sigs s id args branches held)

-- where functions begin, the first of which is f, and what is held there
abbrev pub entries_from : TypesView → ℕ → List Function → List (ℕ × Held TypeId)
entries_from t f [] = []
entries_from t f (g ∷ gs) = (g.entry, parameters g (param_types t f)) ∷ entries_from t (f + 1) gs

abbrev pub leads_at : Program → ℕ → List ℕ
leads_at p s = unwrap_or (option_map (leads_of s) (slice_get p.statements s)) []

-- the rules that the walk of the linear check goes by
abbrev pub rules : Program → TypesView → List Sig → Rules (Held TypeId) LinearFault
rules p t sigs = record {
  size = length p.statements;
  entries = entries_from t 0 p.functions;
  leads = leads_at p;
  flow = λ f s held. statement_flow p t sigs f s held (slice_get p.statements s);
  clash = λ s given had. option_map (MergeDiffers s) (differ same_type given had);
  stray = Shape;
  shared_entry = SharedStatement;
  shared = SharedStatement;
  unreached = Unreachable;
}
