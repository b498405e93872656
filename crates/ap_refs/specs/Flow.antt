-- The rules of places in their order, as the walk goes by them.
use Rattle.std.specs.Prelude.{ℕ, ◌+◌, ◌&&◌, ◌==◌, Bool, true, false, List, [], ◌∷◌, length, map, Option, Some, None, option_map, Result, Ok, Err, if◌then◌else◌}
use Rattle.std.specs.Option.{option_or}
use Rattle.std.specs.List.{slice_get}
use Rattle.std.specs.Ordering.{int_eq}
use Rattle.sierra_types.specs.declared.program.Program.{Program}
use Rattle.sierra_types.specs.declared.program.Function.{Function}
use Rattle.sierra_types.specs.declared.program.Statement.{Statement}
use Rattle.sierra_types.specs.declared.program.Statement.TheVariants.{Invoke, Return}
use Rattle.sierra_types.specs.declared.program.Branch.{Branch}
use Rattle.type_table.specs.View.{TypesView}
use Rattle.type_table.specs.declared.type_id.TypeId.{TypeId}
use Rattle.libfunc_registry.specs.declared.sig.Sig.{Sig}
use Rattle.libfunc_registry.specs.declared.libfunc.Libfunc.{Libfunc}
use Rattle.libfunc_registry.specs.declared.libfunc.Libfunc.TheVariants.{FunctionCall, DictSquash}
use Rattle.libfunc_registry.specs.Fam.{fam_of}
use Rattle.casm_word.specs.declared.instr.Reg.{Reg}
use Rattle.casm_word.specs.declared.instr.Reg.TheVariants as reg
use Rattle.casm_word.specs.declared.cell_expr.At.{At}
use Rattle.casm_word.specs.declared.cell_expr.Side.{Side}
use Rattle.casm_word.specs.declared.cell_expr.Side.TheVariants as side
use Rattle.casm_word.specs.declared.cell_expr.CellExpr.{CellExpr}
use Rattle.casm_word.specs.declared.cell_expr.CellExpr.TheVariants as expr
use Rattle.cost_table.specs.Fits.{marks_of}
use Rattle.held_list.specs.Held.{Held}
use Rattle.held_list.specs.Editing.{differ}
use Rattle.statement_walk.specs.Rules.{Rules}
use Rattle.linear_check.specs.Statements.{declared, target_of, param_types, variables}
use Rattle.linear_check.specs.Flow.{leads_at}
use Rattle.ap_refs.specs.declared.fault.RefFault.{RefFault}
use Rattle.ap_refs.specs.declared.fault.RefFault.TheVariants.{NotOnStack, NotPlain, Dangling, OffsetTooFar, LocalRule, MergeDiffers, Memory}
use Rattle.ap_refs.specs.declared.place.Locals.{Locals}
use Rattle.ap_refs.specs.declared.place.Locals.TheVariants.{Before, Allocating, Done}
use Rattle.ap_refs.specs.declared.place.Place.{Place}
use Rattle.ap_refs.specs.Arguments.{Cells, Argument, taken, joined, first_far, first_off_top, first_unmarked, first_from_ap}
use Rattle.ap_refs.specs.Locals.{local_step}
use Rattle.ap_refs.specs.Moves.{behind, beginning}

-- the arguments are all close
abbrev pub far_fault : ℕ → List Argument → Option RefFault
far_fault s args = option_map (OffsetTooFar s) (first_far args)

-- the arguments are the last cells below ap
abbrev pub stack_fault : ℕ → List Argument → Option RefFault
stack_fault s args = option_map (NotOnStack s) (first_off_top (length (joined args)) args)

-- the arguments have the form that the libfunc asks
abbrev pub mark_fault : ℕ → TypesView → Libfunc → List Argument → Option RefFault
mark_fault s t libfunc args = option_map (NotPlain s) (first_unmarked (marks_of (fam_of t libfunc)) args)

abbrev pub is_call : Libfunc → Bool
is_call (FunctionCall f) = true
is_call _ = false

-- the same; but those of a call stand on the stack
abbrev pub form_fault : ℕ → TypesView → Libfunc → List Argument → Option RefFault
form_fault s t libfunc args = if is_call libfunc then stack_fault s args else mark_fault s t libfunc args

abbrev pub local_fault : {A : Type 0} → ℕ → Option A → Option RefFault
local_fault s None = Some (LocalRule s)
local_fault s (Some step) = None

-- nothing is left that is named by ap
abbrev pub left_fault : ℕ → Held Cells → Option RefFault
left_fault s rest = option_map (Dangling s) (first_from_ap rest)

-- whether nobody knows where ap is behind the libfunc, and the cells before it can't be named by ap any more
abbrev pub loses_ap : Libfunc → Bool
loses_ap (FunctionCall f) = true
loses_ap (DictSquash num) = true
loses_ap _ = false

abbrev pub dangling_fault : ℕ → Libfunc → Held Cells → Option RefFault
dangling_fault s libfunc rest = if loses_ap libfunc then left_fault s rest else None

-- the first fault of a libfunc's statement, before its branches, with what it makes of the local state
abbrev pub invoke_fault : ℕ → TypesView → Libfunc → List Argument → Held Cells → Option (Locals × ℕ) → Option RefFault
invoke_fault s t libfunc args rest step =
    option_or (option_or (option_or (far_fault s args) (form_fault s t libfunc args)) (local_fault s step)) (dangling_fault s libfunc rest)

-- no function ends while locals are being placed
abbrev pub end_fault : ℕ → Locals → Option RefFault
end_fault s Before = None
end_fault s (Allocating start cells) = Some (LocalRule s)
end_fault s Done = None

-- the first fault of the end of a function
abbrev pub end_faults : ℕ → Locals → List Argument → Option RefFault
end_faults s locals args = option_or (option_or (far_fault s args) (stack_fault s args)) (end_fault s locals)

abbrev pub return_fault : ℕ → Place → List Argument → Option RefFault
return_fault s place args = end_faults s place.locals args

-- all branches of a statement, the first of which has this number
abbrev pub branch_parts : TypesView → ℕ → Libfunc → Place → (args : Cells) → (rest : Held Cells) → Locals → (amount : ℕ) → ℕ → List Branch → List (List TypeId) → List (Result (ℕ × Place) RefFault)
branch_parts t s libfunc place args rest locals amount k [] types = []
branch_parts t s libfunc place args rest locals amount k (b ∷ bs) [] = []
branch_parts t s libfunc place args rest locals amount k (b ∷ bs) (ts ∷ more) =
    Ok (target_of s b.target, behind t libfunc place args rest locals amount k b.results ts) ∷ branch_parts t s libfunc place args rest locals amount (k + 1) bs more

-- these parts, each of which passes
abbrev pub all_pass : List (ℕ × Place) → List (Result (ℕ × Place) RefFault)
all_pass given = map (λ part. Ok part) given

-- a fault before the branches is the only part
abbrev pub parts_unless : Option RefFault → List (Result (ℕ × Place) RefFault) → List (Result (ℕ × Place) RefFault)
parts_unless None parts = parts
parts_unless (Some x) parts = Err x ∷ []

-- the branches of a libfunc that has the local state and the amount behind it
abbrev pub stepped_parts : TypesView → ℕ → Sig → Place → List Argument → Held Cells → List Branch → Option (Locals × ℕ) → List (Result (ℕ × Place) RefFault)
stepped_parts t s sig place args rest branches None = []
stepped_parts t s sig place args rest branches (Some step) = branch_parts t s sig.libfunc place (joined args) rest step.0 step.1 0 branches sig.branches

-- the same, or the first fault
abbrev pub step_parts : TypesView → ℕ → Sig → Place → List Branch → List Argument × Held Cells → Option (Locals × ℕ) → List (Result (ℕ × Place) RefFault)
step_parts t s sig place branches x step = parts_unless (invoke_fault s t sig.libfunc x.0 x.1 step) (stepped_parts t s sig place x.0 x.1 branches step)

-- a libfunc's statement with its arguments taken
abbrev pub taken_parts : TypesView → ℕ → Sig → Place → List Branch → List Argument × Held Cells → List (Result (ℕ × Place) RefFault)
taken_parts t s sig place branches x =
    step_parts t s sig place branches x (local_step t sig.libfunc place.ap place.locals)

-- a libfunc's statement, by the signature with which it is declared; in a typed program it has one
abbrev pub invoke_parts : TypesView → ℕ → List ℕ → List Branch → Place → Option Sig → List (Result (ℕ × Place) RefFault)
invoke_parts t s args branches place None = []
invoke_parts t s args branches place (Some sig) = taken_parts t s sig place branches (taken args place.cells)

-- a statement, with what is known there
abbrev pub statement_flow : Program → TypesView → List Sig → ℕ → Place → Option Statement → List (Result (ℕ × Place) RefFault)
statement_flow p t sigs s place None = []
statement_flow p t sigs s place (Some (Return args)) = parts_unless (return_fault s place (taken args place.cells).0) []
statement_flow p t sigs s place (Some (Invoke id args branches)) = invoke_parts t s args branches place (declared p sigs id)

-- where functions begin, the first of which is f, and what is known there
abbrev pub entries_from : TypesView → ℕ → List Function → List (ℕ × Place)
entries_from t f [] = []
entries_from t f (g ∷ gs) = (g.entry, beginning t (variables g) (param_types t f)) ∷ entries_from t (f + 1) gs

abbrev pub same_reg : Reg → Reg → Bool
same_reg reg.Ap reg.Ap = true
same_reg reg.Fp reg.Fp = true
same_reg _ _ = false

abbrev pub same_at : At → At → Bool
same_at a b = same_reg a.base b.base && int_eq a.off b.off

abbrev pub same_side : Side → Side → Bool
same_side (side.Cell a) (side.Cell b) = same_at a b
same_side (side.Imm n) (side.Imm m) = n == m
same_side _ _ = false

abbrev pub same_expr : CellExpr → CellExpr → Bool
same_expr (expr.Cell a) (expr.Cell b) = same_at a b
same_expr (expr.DoubleCell a i) (expr.DoubleCell b j) = same_at a b && int_eq i j
same_expr (expr.Imm n) (expr.Imm m) = n == m
same_expr (expr.Sum a s) (expr.Sum b t) = same_at a b && same_side s t
same_expr (expr.Diff a s) (expr.Diff b t) = same_at a b && same_side s t
same_expr (expr.Product a s) (expr.Product b t) = same_at a b && same_side s t
same_expr _ _ = false

abbrev pub same_cells : Cells → Cells → Bool
same_cells [] [] = true
same_cells [] (d ∷ ds) = false
same_cells (c ∷ cs) [] = false
same_cells (c ∷ cs) (d ∷ ds) = same_expr c d && same_cells cs ds

abbrev pub same_ap : Option ℕ → Option ℕ → Bool
same_ap None None = true
same_ap (Some a) (Some b) = a == b
same_ap _ _ = false

abbrev pub same_locals : Locals → Locals → Bool
same_locals Before Before = true
same_locals (Allocating s n) (Allocating t m) = (s == t) && (n == m)
same_locals Done Done = true
same_locals _ _ = false

-- where the cells of no variable differ, the change of ap or the local state may
abbrev pub clash_at : ℕ → Place → Place → Option ℕ → Option RefFault
clash_at s given had (Some v) = Some (MergeDiffers s (Some v))
clash_at s given had None = if same_ap given.ap had.ap && same_locals given.locals had.locals then None else Some (MergeDiffers s None)

abbrev pub clash : ℕ → Place → Place → Option RefFault
clash s given had = clash_at s given had (differ same_cells given.cells had.cells)

-- The rules that the walk of places goes by. Where the linear check passes, no entry lies past the last statement, and no
-- statement is shared or missed.
abbrev pub rules : Program → TypesView → List Sig → Rules Place RefFault
rules p t sigs = record {
  size = length p.statements;
  entries = entries_from t 0 p.functions;
  leads = leads_at p;
  flow = λ f s place. statement_flow p t sigs s place (slice_get p.statements s);
  clash = clash;
  stray = λ s. Memory;
  shared_entry = λ s. Memory;
  shared = λ s. Memory;
  unreached = λ s. Memory;
}
