-- A program has places, or its walk has one first fault.
use Rattle.std.proofs.Common.{◌≡◌, ◌↔◌, ◌⊎◌, ℕ, zero, suc, ◌+◌, ◌<◌, Bool, true, false, cond, ◌&&◌, length, List, [], ◌∷◌, map, Option, Some, None, option_map, unwrap_or, Result, Ok, Err, refl, sym, ap, subst, ◌∙◌, inl, inr, arith}
use Rattle.std.specs.List.{slice_get}
use Rattle.std.specs.Option.{option_or}
use Rattle.libfunc_registry.specs.Fam.{fam_of}
use Rattle.cost_table.specs.Fits.{marks_of}
use Rattle.std.proofs.lemmas.Option.{none-some, same_Some}
use Rattle.sierra_types.specs.declared.program.Program.{Program}
use Rattle.sierra_types.specs.declared.program.Function.{Function}
use Rattle.sierra_types.specs.declared.program.Statement.{Statement}
use Rattle.sierra_types.specs.declared.program.Statement.TheVariants.{Invoke, Return}
use Rattle.sierra_types.specs.declared.program.Branch.{Branch}
use Rattle.type_table.specs.View.{TypesView}
use Rattle.type_table.specs.declared.type_id.TypeId.{TypeId}
use Rattle.libfunc_registry.specs.declared.sig.Sig.{Sig}
use Rattle.libfunc_registry.specs.declared.libfunc.Libfunc.{Libfunc}
use Rattle.held_list.specs.Held.{Held}
use Rattle.held_list.specs.Editing.{differ}
use Rattle.statement_walk.specs.Keeps.{SameShape, IsOwn}
use Rattle.statement_walk.specs.Rules.{Rules, Lawful}
use Rattle.statement_walk.specs.Walk.{Stops}
use Rattle.statement_walk.proofs.Shapes.{same_shape}
use Rattle.statement_walk.proofs.Stopping.{stops_same}
use Rattle.linear_check.specs.Statements.{declared}
use Rattle.linear_check.specs.Typed.{TypedList, Typed}
use Rattle.linear_check.specs.Flow.{entries_from as typed_entries, rules as typed_rules}
use Rattle.linear_check.proofs.Joining.{typed_by_rules}
use Rattle.linear_check.proofs.Lawfulness.{rules_lawful as typed_lawful}
use Rattle.ap_refs.specs.declared.fault.RefFault.{RefFault}
use Rattle.ap_refs.specs.declared.fault.RefFault.TheVariants.{NotOnStack, NotPlain, Dangling, OffsetTooFar, LocalRule, MergeDiffers, Memory}
use Rattle.ap_refs.specs.declared.place.Locals.{Locals}
use Rattle.ap_refs.specs.declared.place.Locals.TheVariants.{Before, Allocating, Done}
use Rattle.ap_refs.specs.declared.place.Place.{Place}
use Rattle.ap_refs.specs.Arguments.{Cells, Argument, taken, joined, first_far, first_off_top, first_unmarked, first_from_ap}
use Rattle.ap_refs.specs.FirstFault.{FirstFault}
use Rattle.ap_refs.specs.Flow.{far_fault, stack_fault, mark_fault, is_call, form_fault, local_fault, left_fault, loses_ap, dangling_fault, invoke_fault, end_fault, end_faults, return_fault, branch_parts, parts_unless, stepped_parts, taken_parts, invoke_parts, statement_flow, entries_from, same_cells, same_ap, same_locals, clash_at, rules}
use Rattle.ap_refs.specs.Locals.{local_step}
use Rattle.ap_refs.specs.Prepared.{IsTypedProgram}
use Rattle.ap_refs.proofs.Lawfulness.{rules_lawful}

-- a rule's fault, not out of memory
abbrev IsRule : RefFault → Type 0
IsRule x = x ≡ Memory → ⊥

-- what a test finds is a rule's fault
abbrev FindsRule : Option RefFault → Type 0
FindsRule o = (x : RefFault) → o ≡ Some x → IsRule x

mapped_rule : (f : ℕ → RefFault) → ((v : ℕ) → IsRule (f v)) → (o : Option ℕ) → FindsRule (option_map f o)
mapped_rule f rule None x is = absurd (none-some x is)
mapped_rule f rule (Some v) x is = subst IsRule (same_Some (f v) x is) (rule v)

none_rule : FindsRule None
none_rule x is = absurd (none-some x is)

some_rule : (y : RefFault) → IsRule y → FindsRule (Some y)
some_rule y rule x is = subst IsRule (same_Some y x is) rule

or_rule : (a b : Option RefFault) → FindsRule a → FindsRule b → FindsRule (option_or a b)
or_rule None b first second = second
or_rule (Some y) b first second = first

cond_rule : (b : Bool) (x y : Option RefFault) → FindsRule x → FindsRule y → FindsRule (cond b x y)
cond_rule true x y first second = first
cond_rule false x y first second = second

far_rule : (s : ℕ) (args : List Argument) → FindsRule (far_fault s args)
far_rule s args = mapped_rule (OffsetTooFar s) (λ v bad. cc) (first_far args)

stack_rule : (s : ℕ) (args : List Argument) → FindsRule (stack_fault s args)
stack_rule s args = mapped_rule (NotOnStack s) (λ v bad. cc) (first_off_top (length (joined args)) args)

form_rule : (s : ℕ) (t : TypesView) (libfunc : Libfunc) (args : List Argument) → FindsRule (form_fault s t libfunc args)
form_rule s t libfunc args =
    cond_rule (is_call libfunc) (stack_fault s args) (mark_fault s t libfunc args) (stack_rule s args) (mapped_rule (NotPlain s) (λ v bad. cc) (first_unmarked (marks_of (fam_of t libfunc)) args))

local_rule : (s : ℕ) (o : Option (Locals × ℕ)) → FindsRule (local_fault s o)
local_rule s None = some_rule (LocalRule s) (λ bad. cc)
local_rule s (Some step) = none_rule

dangling_rule : (s : ℕ) (libfunc : Libfunc) (rest : Held Cells) → FindsRule (dangling_fault s libfunc rest)
dangling_rule s libfunc rest = cond_rule (loses_ap libfunc) (left_fault s rest) None (mapped_rule (Dangling s) (λ v bad. cc) (first_from_ap rest)) none_rule

invoke_rule : (s : ℕ) (t : TypesView) (libfunc : Libfunc) (args : List Argument) (rest : Held Cells) (step : Option (Locals × ℕ)) → FindsRule (invoke_fault s t libfunc args rest step)
invoke_rule s t libfunc args rest step =
    let far = far_fault s args in
    let form = form_fault s t libfunc args in
    or_rule (option_or (option_or far form) (local_fault s step)) (dangling_fault s libfunc rest)
    (or_rule (option_or far form) (local_fault s step) (or_rule far form (far_rule s args) (form_rule s t libfunc args)) (local_rule s step)) (dangling_rule s libfunc rest)

end_rule : (s : ℕ) (locals : Locals) → FindsRule (end_fault s locals)
end_rule s Before = none_rule
end_rule s (Allocating start cells) = some_rule (LocalRule s) (λ bad. cc)
end_rule s Done = none_rule

return_rule : (s : ℕ) (place : Place) (args : List Argument) → FindsRule (return_fault s place args)
return_rule s place args =
    or_rule (option_or (far_fault s args) (stack_fault s args)) (end_fault s place.locals) (or_rule (far_fault s args) (stack_fault s args) (far_rule s args) (stack_rule s args)) (end_rule s place.locals)

-- parts

abbrev HaveRules : List (Result (ℕ × Place) RefFault) → Type 0
HaveRules parts = (k : ℕ) (x : RefFault) → slice_get parts k ≡ Some (Err x) → IsRule x

no_parts : HaveRules []
no_parts k x is = absurd (none-some (Err x) is)

part_is : (y x : RefFault) → ◌≡◌ {A = Option (Result (ℕ × Place) RefFault)} (Some (Err y)) (Some (Err x)) → y ≡ x
part_is y x is = cc

unless_rules : (fault : Option RefFault) (parts : List (Result (ℕ × Place) RefFault)) → FindsRule fault → HaveRules parts → HaveRules (parts_unless fault parts)
unless_rules None parts found have k x is = have k x is
unless_rules (Some y) parts found have zero x is = subst IsRule (part_is y x is) (found y refl)
unless_rules (Some y) parts found have (suc k) x is = absurd (none-some (Err x) is)

branch_rules : (t : TypesView) (s : ℕ) (libfunc : Libfunc) (place : Place) (args : Cells) (rest : Held Cells) (locals : Locals) (amount n : ℕ) (bs : List Branch) (types : List (List TypeId)) → HaveRules (branch_parts t s libfunc place args rest locals amount n bs types)
branch_rules t s libfunc place args rest locals amount n [] types k x is = absurd (none-some (Err x) is)
branch_rules t s libfunc place args rest locals amount n (b ∷ bs) [] k x is = absurd (none-some (Err x) is)
branch_rules t s libfunc place args rest locals amount n (b ∷ bs) (ts ∷ types) zero x is = (let bad : ⊥ = cc in absurd bad)
branch_rules t s libfunc place args rest locals amount n (b ∷ bs) (ts ∷ types) (suc k) x is = branch_rules t s libfunc place args rest locals amount (n + 1) bs types k x is

stepped_rules : (t : TypesView) (s : ℕ) (sig : Sig) (place : Place) (args : List Argument) (rest : Held Cells) (bs : List Branch) (step : Option (Locals × ℕ)) → HaveRules (stepped_parts t s sig place args rest bs step)
stepped_rules t s sig place args rest bs None = no_parts
stepped_rules t s sig place args rest bs (Some step) = branch_rules t s sig.libfunc place (joined args) rest step.0 step.1 0 bs sig.branches

sig_rules : (t : TypesView) (s : ℕ) (args : List ℕ) (bs : List Branch) (place : Place) (o : Option Sig) → HaveRules (invoke_parts t s args bs place o)
sig_rules t s args bs place None = no_parts
sig_rules t s args bs place (Some sig) =
    let x = taken args place.cells in
    let step = local_step t sig.libfunc place.ap place.locals in
    unless_rules (invoke_fault s t sig.libfunc x.0 x.1 step) (stepped_parts t s sig place x.0 x.1 bs step) (invoke_rule s t sig.libfunc x.0 x.1 step) (stepped_rules t s sig place x.0 x.1 bs step)

flow_rules : (p : Program) (t : TypesView) (sigs : List Sig) (s : ℕ) (place : Place) (o : Option Statement) → HaveRules (statement_flow p t sigs s place o)
flow_rules p t sigs s place None = no_parts
flow_rules p t sigs s place (Some (Return args)) = unless_rules (return_fault s place (taken args place.cells).0) [] (return_rule s place (taken args place.cells).0) no_parts
flow_rules p t sigs s place (Some (Invoke id args bs)) = sig_rules t s args bs place (declared p sigs id)

clash_rule : (s : ℕ) (given had : Place) (o : Option ℕ) → FindsRule (clash_at s given had o)
clash_rule s given had None = cond_rule (same_ap given.ap had.ap && same_locals given.locals had.locals) None (Some (MergeDiffers s None)) none_rule (some_rule (MergeDiffers s None) (λ bad. cc))
clash_rule s given had (Some v) = some_rule (MergeDiffers s (Some v)) (λ bad. cc)

-- the walk has the shape of the linear check's

same_entries : (t : TypesView) (f : ℕ) (gs : List Function) → map (λ (x : ℕ × Place). x.0) (entries_from t f gs) ≡ map (λ (x : ℕ × Held TypeId). x.0) (typed_entries t f gs)
same_entries t f [] = refl
same_entries t f (g ∷ gs) = ap (λ xs. g.entry ∷ xs) (same_entries t (f + 1) gs)

shape : (p : Program) (t : TypesView) (sigs : List Sig) → SameShape (typed_rules p t sigs) (rules p t sigs)
shape p t sigs = record { size = refl; entries = same_entries t 0 p.functions; leads = λ s. refl }

own_rule : (p : Program) (t : TypesView) (sigs : List Sig) (x : RefFault) → IsOwn (rules p t sigs) x → IsRule x
own_rule p t sigs x own =
    elim own.cause [
      | inl part ↦ flow_rules p t sigs own.statement own.env (slice_get p.statements own.statement) part.0 x part.1
      | inr other ↦ clash_rule own.statement other.0 other.1 (differ same_cells other.0.cells other.1.cells) x other.2
    ]

pub never_memory : (p : Program) (t : TypesView) (sigs : List Sig) (envs : TypedList) → IsTypedProgram p t sigs envs → FirstFault p t sigs Memory → ⊥
never_memory p t sigs envs program first =
    let fits = (typed_by_rules p t sigs program.types envs).0 program.typed in
    own_rule p t sigs Memory (same_shape (typed_rules p t sigs) (rules p t sigs) (typed_lawful p t sigs) (rules_lawful p t sigs envs program.typed) (shape p t sigs) envs fits Memory first) refl

pub one_fault : (p : Program) (t : TypesView) (sigs : List Sig) (x y : RefFault) → FirstFault p t sigs x → FirstFault p t sigs y → x ≡ y
one_fault p t sigs x y first second = let same = stops_same (rules p t sigs) (Err x) (Err y) first second in cc
