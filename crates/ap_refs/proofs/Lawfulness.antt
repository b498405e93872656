-- The rules of places fit together.
use Rattle.std.proofs.Common.{◌≡◌, ℕ, ◌+◌, ◌<◌, ◌≤◌, Bool, true, false, cond, ◌&&◌, ◌↔◌, List, [], ◌∷◌, length, Option, Some, None, option_map, unwrap_or, Result, Ok, Err, refl, sym, ap, subst, ◌∙◌, arith, inl, inr, ◌⊎◌}
use Rattle.std.specs.List.{slice_get, AllZip, AllByRecursion}
use Rattle.std.specs.Option.{option_or}
use Rattle.std.proofs.lemmas.Bool.{and_parts}
use Rattle.std.proofs.lemmas.Option.{none-some, same_Some}
use Rattle.sierra_types.specs.declared.program.Program.{Program}
use Rattle.sierra_types.specs.declared.program.Statement.{Statement}
use Rattle.sierra_types.specs.declared.program.Statement.TheVariants.{Invoke, Return}
use Rattle.sierra_types.specs.declared.program.Branch.{Branch}
use Rattle.type_table.specs.View.{TypesView}
use Rattle.type_table.specs.declared.type_id.TypeId.{TypeId}
use Rattle.libfunc_registry.specs.declared.sig.Sig.{Sig}
use Rattle.libfunc_registry.specs.declared.libfunc.Libfunc.{Libfunc}
use Rattle.held_list.specs.Held.{Held}
use Rattle.held_list.specs.Editing.{differ}
use Rattle.held_list.proofs.Differing.{differ_equal}
use Rattle.statement_walk.specs.Rules.{Rules, Lawful, AreParts}
use Rattle.statement_walk.proofs.Arrivals.{inside}
use Rattle.linear_check.specs.Statements.{declared, target_of, targets_of, leads_of}
use Rattle.linear_check.specs.Typed.{TypedList, Typed, Invokes}
use Rattle.ap_refs.specs.declared.fault.RefFault.{RefFault}
use Rattle.ap_refs.specs.declared.fault.RefFault.TheVariants.{MergeDiffers, LocalRule}
use Rattle.ap_refs.specs.declared.place.Locals.{Locals}
use Rattle.ap_refs.specs.declared.place.Place.{Place}
use Rattle.ap_refs.specs.Arguments.{Cells, Argument, taken, joined}
use Rattle.ap_refs.specs.Locals.{local_step}
use Rattle.ap_refs.specs.Flow.{far_fault, form_fault, local_fault, dangling_fault, invoke_fault, return_fault, branch_parts, parts_unless, stepped_parts, taken_parts, invoke_parts, statement_flow, same_cells, same_ap, same_locals, clash_at, clash, rules}
use Rattle.ap_refs.specs.Prepared.{IsTypedProgram}
use Rattle.ap_refs.proofs.Equalities.{same_cells_decides, same_ap_decides, same_locals_decides}

-- of two faults none is there

pub or_none : {A : Type 0} (a b : Option A) → option_or a b ≡ None → (a ≡ None) × (b ≡ None)
or_none None b is = (refl, is)
or_none (Some x) b is = absurd (none-some x (sym is))

pub none_or : {A : Type 0} (a b : Option A) → a ≡ None → b ≡ None → option_or a b ≡ None
none_or None b first second = second
none_or (Some x) b first second = absurd (none-some x (sym first))

pub local_none : {A : Type 0} (s : ℕ) (o : Option A) → local_fault s o ≡ None → (step : A) × (o ≡ Some step)
local_none s None is = absurd (none-some (LocalRule s) (sym is))
local_none s (Some step) is = (step, refl)

pub step_none : (s : ℕ) (t : TypesView) (libfunc : Libfunc) (args : List Argument) (rest : Held Cells) (step : Option (Locals × ℕ)) → invoke_fault s t libfunc args rest step ≡ None
    → (far_fault s args ≡ None) × (form_fault s t libfunc args ≡ None) × (local_fault s step ≡ None) × (dangling_fault s libfunc rest ≡ None)
step_none s t libfunc args rest step is =
    let far = far_fault s args in
    let form = form_fault s t libfunc args in
    let local = local_fault s step in
    let one = or_none (option_or (option_or far form) local) (dangling_fault s libfunc rest) is in
    let two = or_none (option_or far form) local one.0 in
    let three = or_none far form two.0 in
    (three.0, three.1, two.1, one.1)

-- a part for each branch

branches_lead : (t : TypesView) (size s : ℕ) (libfunc : Libfunc) (place : Place) (args : Cells) (rest : Held Cells) (locals : Locals) (amount k : ℕ) (bs : List Branch) (types : List (List TypeId))
    → AllZip (λ b ts. length b.results ≡ length ts) bs types → AllByRecursion (λ b. target_of s b.target < size) bs
    → AreParts size (targets_of s bs) (branch_parts t s libfunc place args rest locals amount k bs types)
branches_lead t size s libfunc place args rest locals amount k [] types agree lead = tt
branches_lead t size s libfunc place args rest locals amount k (b ∷ bs) [] agree lead = absurd agree
branches_lead t size s libfunc place args rest locals amount k (b ∷ bs) (ts ∷ types) agree lead =
    (refl, lead.0, branches_lead t size s libfunc place args rest locals amount (k + 1) bs types agree.1 lead.1)

stepped_lead : (t : TypesView) (size s : ℕ) (sig : Sig) (place : Place) (args : List Argument) (rest : Held Cells) (bs : List Branch) (o : Option (Locals × ℕ)) → local_fault s o ≡ None
    → AllZip (λ b ts. length b.results ≡ length ts) bs sig.branches → AllByRecursion (λ b. target_of s b.target < size) bs
    → AreParts size (targets_of s bs) (stepped_parts t s sig place args rest bs o)
stepped_lead t size s sig place args rest bs None is agree lead = absurd (none-some (LocalRule s) (sym is))
stepped_lead t size s sig place args rest bs (Some step) is agree lead = branches_lead t size s sig.libfunc place (joined args) rest step.0 step.1 0 bs sig.branches agree lead

-- a fault before the branches is alone
parts_lawful : (size : ℕ) (ts : List ℕ) (fault : Option RefFault) (parts : List (Result (ℕ × Place) RefFault)) → (fault ≡ None → AreParts size ts parts)
    → ((x : RefFault) × (parts_unless fault parts ≡ Err x ∷ [])) ⊎ AreParts size ts (parts_unless fault parts)
parts_lawful size ts None parts are = inr (are refl)
parts_lawful size ts (Some x) parts are = inl (x, refl)

abbrev IsLawfulFlow : Program → List ℕ → List (Result (ℕ × Place) RefFault) → Type 0
IsLawfulFlow p ts parts = ((x : RefFault) × (parts ≡ Err x ∷ [])) ⊎ AreParts (length p.statements) ts parts

-- what the linear check knows of a statement
pub typed_at : (p : Program) (t : TypesView) (sigs : List Sig) (envs : TypedList) → Typed p t sigs envs → (s : ℕ) → s < length p.statements → (x : ℕ × _) × (slice_get envs s ≡ Some x)
typed_at p t sigs envs typed s lt = inside envs s (subst (λ n. s < n) (sym typed.long) lt)

pub invoked : (p : Program) (t : TypesView) (sigs : List Sig) (envs : TypedList) → Typed p t sigs envs → (s : ℕ) → s < length p.statements → (id args : List ℕ) (bs : List Branch) → slice_get p.statements s ≡ Some (Invoke id args bs)
    → (f : ℕ) × (held : Held TypeId) × Invokes p sigs envs f s held id args bs
invoked p t sigs envs typed s lt id args bs is =
    let at = typed_at p t sigs envs typed s lt in
    (at.0.0, at.0.1, typed.statements s at.0.0 at.0.1 (Invoke id args bs) is at.1)

flow_parts : (p : Program) (t : TypesView) (sigs : List Sig) (envs : TypedList) → Typed p t sigs envs → (s : ℕ) → s < length p.statements → (place : Place) (o : Option Statement) → slice_get p.statements s ≡ o
    → IsLawfulFlow p (unwrap_or (option_map (leads_of s) o) []) (statement_flow p t sigs s place o)
flow_parts p t sigs envs typed s lt place None is = inr tt
flow_parts p t sigs envs typed s lt place (Some (Return args)) is = parts_lawful (length p.statements) [] (return_fault s place (taken args place.cells).0) [] (λ _. tt)
flow_parts p t sigs envs typed s lt place (Some (Invoke id args bs)) is =
    let invokes = (invoked p t sigs envs typed s lt id args bs is).2 in
    let x = taken args place.cells in
    let step = local_step t invokes.sig.libfunc place.ap place.locals in
    subst (λ d. IsLawfulFlow p (targets_of s bs) (invoke_parts t s args bs place d)) (sym invokes.declared_as)
    (parts_lawful (length p.statements) (targets_of s bs) (invoke_fault s t invokes.sig.libfunc x.0 x.1 step) (stepped_parts t s invokes.sig place x.0 x.1 bs step) (λ none.
    stepped_lead t (length p.statements) s invokes.sig place x.0 x.1 bs step (step_none s t invokes.sig.libfunc x.0 x.1 step none).2 invokes.shaped.results invokes.shaped.inside))

-- two places that don't differ are equal

cond_none : {A : Type 0} (b : Bool) (x : A) → cond b None (Some x) ≡ None → b ≡ true
cond_none true x is = refl
cond_none false x is = absurd (none-some x (sym is))

at_none : (s : ℕ) (given had : Place) (o : Option ℕ) → clash_at s given had o ≡ None → (o ≡ None) × ((same_ap given.ap had.ap && same_locals given.locals had.locals) ≡ true)
at_none s given had None is = (refl, cond_none (same_ap given.ap had.ap && same_locals given.locals had.locals) (MergeDiffers s None) is)
at_none s given had (Some v) is = absurd (none-some (MergeDiffers s (Some v)) (sym is))

place_same : (a b : Place) → a.cells ≡ b.cells → a.ap ≡ b.ap → a.locals ≡ b.locals → a ≡ b
place_same a b cells change locals =
    ap (λ c. record { cells = c; ap = a.ap; locals = a.locals }) cells ∙ ap (λ n. record { cells = b.cells; ap = n; locals = a.locals }) change
    ∙ ap (λ l. record { cells = b.cells; ap = b.ap; locals = l }) locals

pub clash_equal : (s : ℕ) (given had : Place) → clash s given had ≡ None → given ≡ had
clash_equal s given had is =
    let none = at_none s given had (differ same_cells given.cells had.cells) is in
    let both = and_parts (same_ap given.ap had.ap) (same_locals given.locals had.locals) none.1 in
    place_same given had ((differ_equal same_cells same_cells_decides given.cells had.cells).0 none.0) ((same_ap_decides given.ap had.ap).0 both.0)
    ((same_locals_decides given.locals had.locals).0 both.1)

pub clash-same : (s : ℕ) (place : Place) → clash s place place ≡ None
clash-same s place =
    let cells = (differ_equal same_cells same_cells_decides place.cells place.cells).1 refl in
    let both : (same_ap place.ap place.ap && same_locals place.locals place.locals) ≡ true =
    ap (λ b. b && same_locals place.locals place.locals) ((same_ap_decides place.ap place.ap).1 refl) ∙ (same_locals_decides place.locals place.locals).1 refl in
    ap (clash_at s place place) cells ∙ ap (λ b. cond b None (Some (MergeDiffers s None))) both

pub rules_lawful : (p : Program) (t : TypesView) (sigs : List Sig) (envs : TypedList) → Typed p t sigs envs → Lawful (rules p t sigs)
rules_lawful p t sigs envs typed = record {
  flows = λ f s place lt. flow_parts p t sigs envs typed s lt place (slice_get p.statements s) refl;
  clashes = λ s given had. ((λ is. clash_equal s given had is), (λ same. subst (λ h. clash s given h ≡ None) same (clash-same s given)));
}
