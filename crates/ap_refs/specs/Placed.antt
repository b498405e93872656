-- Places: which expressions each variable's cells have at each statement, how far ap is from where it was at the function's
-- begin, and the state of the locals.
use Rattle.std.specs.Prelude.{◌≡◌, ℕ, ◌<◌, pos, ◌-ℤ◌, IsTrue, IsFalse, List, [], ◌∷◌, length, map, Some, Option}
use Rattle.std.specs.List.{slice_get, range_with_len, All}
use Rattle.sierra_types.specs.declared.program.Program.{Program}
use Rattle.sierra_types.specs.declared.program.Function.{Function}
use Rattle.sierra_types.specs.declared.program.Statement.{Statement}
use Rattle.sierra_types.specs.declared.program.Statement.TheVariants.{Invoke, Return}
use Rattle.sierra_types.specs.declared.program.Branch.{Branch}
use Rattle.type_table.specs.View.{TypesView}
use Rattle.type_table.specs.declared.type_id.TypeId.{TypeId}
use Rattle.libfunc_registry.specs.declared.sig.Sig.{Sig}
use Rattle.libfunc_registry.specs.declared.libfunc.Libfunc.{Libfunc}
use Rattle.libfunc_registry.specs.Fam.{fam_of}
use Rattle.casm_word.specs.declared.instr.Reg.TheVariants as reg
use Rattle.casm_word.specs.declared.cell_expr.CellExpr.{CellExpr}
use Rattle.casm_word.specs.declared.cell_expr.CellExpr.TheVariants as expr
use Rattle.cost_table.specs.declared.mark.Mark.{Mark}
use Rattle.cost_table.specs.Fits.{IsCloseExpr, marks_of}
use Rattle.cost_table.specs.Marks.{meets_mark}
use Rattle.held_list.specs.Held.{Held, Each}
use Rattle.linear_check.specs.Typed.{TypedList}
use Rattle.linear_check.specs.Statements.{declared, target_of, param_types, variables}
use Rattle.ap_refs.specs.declared.place.Locals.{Locals}
use Rattle.ap_refs.specs.declared.place.Locals.TheVariants.{Before, Allocating, Done}
use Rattle.ap_refs.specs.declared.place.Place.{Place}
use Rattle.ap_refs.specs.Arguments.{Cells, Argument, taken, joined, is_from_ap}
use Rattle.ap_refs.specs.Flow.{is_call, loses_ap}
use Rattle.ap_refs.specs.Locals.{local_step}
use Rattle.ap_refs.specs.Moves.{behind, beginning}

-- the function of each statement, and what is known there
abbrev pub PlacedList : Type 0
PlacedList = List (ℕ × Place)

-- the last n cells below ap, in order
abbrev pub top : ℕ → Cells
top n = map (λ k. expr.Cell (record { base = reg.Ap; off = pos k -ℤ pos n })) (range_with_len 0 n)

abbrev pub IsOnTop : Cells → Type 0
IsOnTop cells = cells ≡ top (length cells)

-- each argument's cells are of its marked form
abbrev pub AreMarked : List Mark → List Argument → Type 0
AreMarked [] args = Unit {0}
AreMarked (mark ∷ marks) [] = Unit {0}
AreMarked (mark ∷ marks) (x ∷ xs) = IsTrue (meets_mark mark x.1) × AreMarked marks xs

-- the arguments of a call stand on top of the stack, and those of another libfunc have the form that it asks
pub record AreFormed (t : TypesView) (libfunc : Libfunc) (args : List Argument) : Type 0 where
  pub on_top : IsTrue (is_call libfunc) → IsOnTop (joined args)
  pub marked : IsFalse (is_call libfunc) → AreMarked (marks_of (fam_of t libfunc)) args

-- no cell of what is held is named by ap
abbrev pub IsFreeOfAp : Held Cells → Type 0
IsFreeOfAp held = All (λ (x : Argument). All (λ c. IsFalse (is_from_ap c)) x.1) held

abbrev pub IsAllocating : Locals → Type 0
IsAllocating Before = ⊥
IsAllocating (Allocating start cells) = Unit {0}
IsAllocating Done = ⊥

-- the end of a function: its results stand on top of the stack
pub record Ends (place : Place) (args : List Argument) : Type 0 where
  pub close : All IsCloseExpr (joined args)
  pub on_top : IsOnTop (joined args)
  pub reserved : ¬ IsAllocating place.locals

-- a libfunc's statement takes these arguments and leaves this rest, and each branch gives its target what is known behind it
pub record Passes (t : TypesView) (a : PlacedList) (f s : ℕ) (place : Place) (sig : Sig) (branches : List Branch) (args : List Argument) (rest : Held Cells) : Type 0 where
  pub close : All IsCloseExpr (joined args)
  pub formed : AreFormed t sig.libfunc args
  pub locals : Locals
  pub amount : ℕ
  pub local : local_step t sig.libfunc place.ap place.locals ≡ Some (locals, amount)
  -- behind a call and a squash, nothing that is left is named by ap
  pub leaves : IsTrue (loses_ap sig.libfunc) → IsFreeOfAp rest
  pub gives : (k : ℕ) (b : Branch) (types : List TypeId) → slice_get branches k ≡ Some b → slice_get sig.branches k ≡ Some types
      → slice_get a (target_of s b.target) ≡ Some (f, behind t sig.libfunc place (joined args) rest locals amount k b.results types)

-- what holds of statement s with a function and what is known there
abbrev pub IsPlacedAt : Program → TypesView → List Sig → PlacedList → ℕ → ℕ → Place → Statement → Type 0
IsPlacedAt p t sigs a f s place (Return args) = Ends place (taken args place.cells).0
IsPlacedAt p t sigs a f s place (Invoke id args branches) =
    (sig : Sig) × (declared p sigs id ≡ Some sig) × Passes t a f s place sig branches (taken args place.cells).0 (taken args place.cells).1

-- the list gives each statement of a typed program its function and what is known there
pub record Placed (p : Program) (t : TypesView) (sigs : List Sig) (a : PlacedList) : Type 0 where
  pub long : length a ≡ length p.statements
  pub entries : (f : ℕ) (g : Function) → slice_get p.functions f ≡ Some g → slice_get a g.entry ≡ Some (f, beginning t (variables g) (param_types t f))
  pub statements : (s f : ℕ) (place : Place) (statement : Statement) → slice_get p.statements s ≡ Some statement → slice_get a s ≡ Some (f, place) → IsPlacedAt p t sigs a f s place statement

-- the same variables, whatever is known of each
abbrev pub HoldTheSame : Held TypeId → Held Cells → Type 0
HoldTheSame held cells = Each (λ ty own. Unit {0}) held cells

-- a statement has the same function and the same variables in both lists
abbrev pub IsAlike : TypedList → PlacedList → ℕ → Type 0
IsAlike envs a s = (f : ℕ) (held : Held TypeId) (g : ℕ) (place : Place) → slice_get envs s ≡ Some (f, held) → slice_get a s ≡ Some (g, place) → (f ≡ g) × HoldTheSame held place.cells
