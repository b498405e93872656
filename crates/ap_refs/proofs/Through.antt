-- The walk over a typed program is through with its places, or it stops with a first fault.
use Rattle.std.proofs.Common.{◌≡◌, ◌↔◌, ◌⊎◌, ℕ, List, Result, Ok, Err, inl, inr}
use Rattle.sierra_types.specs.declared.program.Program.{Program}
use Rattle.type_table.specs.View.{TypesView}
use Rattle.libfunc_registry.specs.declared.sig.Sig.{Sig}
use Rattle.statement_walk.specs.Rules.{Lawful}
use Rattle.statement_walk.specs.Walk.{Stops}
use Rattle.statement_walk.proofs.Arrivals.{err-ok}
use Rattle.statement_walk.proofs.Stopping.{stops_some, stops_same, joins}
use Rattle.statement_walk.proofs.Stopping.{one_list as one_list_fits}
use Rattle.linear_check.specs.Typed.{TypedList}
use Rattle.ap_refs.specs.declared.fault.RefFault.{RefFault}
use Rattle.ap_refs.specs.FirstFault.{FirstFault}
use Rattle.ap_refs.specs.Flow.{rules}
use Rattle.ap_refs.specs.Placed.{PlacedList, Placed}
use Rattle.ap_refs.specs.Prepared.{IsTypedProgram}
use Rattle.ap_refs.proofs.Joining.{placed_by_rules}
use Rattle.ap_refs.proofs.Lawfulness.{rules_lawful}

pub lawful : (p : Program) (t : TypesView) (sigs : List Sig) (envs : TypedList) → IsTypedProgram p t sigs envs → Lawful (rules p t sigs)
lawful p t sigs envs program = rules_lawful p t sigs envs program.typed

pub through : (p : Program) (t : TypesView) (sigs : List Sig) (envs : TypedList) → IsTypedProgram p t sigs envs → (a : PlacedList) → Placed p t sigs a ↔ Stops (rules p t sigs) (Ok a)
through p t sigs envs program a =
    let placed = placed_by_rules p t sigs envs program a in
    let fits = joins (rules p t sigs) (lawful p t sigs envs program) a in
    ((λ is. fits.0 (placed.0 is)), (λ stops. placed.1 (fits.1 stops)))

either : (p : Program) (t : TypesView) (sigs : List Sig) (envs : TypedList) → IsTypedProgram p t sigs envs → (x : Result PlacedList RefFault) → Stops (rules p t sigs) x
    → ((a : PlacedList) × Placed p t sigs a) ⊎ ((fault : RefFault) × FirstFault p t sigs fault)
either p t sigs envs program (Ok a) stops = inl (a, (through p t sigs envs program a).1 stops)
either p t sigs envs program (Err fault) stops = inr (fault, stops)

pub placed_or_fault : (p : Program) (t : TypesView) (sigs : List Sig) (envs : TypedList) → IsTypedProgram p t sigs envs → ((a : PlacedList) × Placed p t sigs a) ⊎ ((fault : RefFault) × FirstFault p t sigs fault)
placed_or_fault p t sigs envs program = let some = stops_some (rules p t sigs) (lawful p t sigs envs program) in either p t sigs envs program some.0 some.1

pub never_both : (p : Program) (t : TypesView) (sigs : List Sig) (envs : TypedList) → IsTypedProgram p t sigs envs → (a : PlacedList) (fault : RefFault) → Placed p t sigs a → FirstFault p t sigs fault → ⊥
never_both p t sigs envs program a fault placed first = err-ok fault a (stops_same (rules p t sigs) (Err fault) (Ok a) first ((through p t sigs envs program a).0 placed))

pub one_list : (p : Program) (t : TypesView) (sigs : List Sig) (envs : TypedList) → IsTypedProgram p t sigs envs → (a b : PlacedList) → Placed p t sigs a → Placed p t sigs b → a ≡ b
one_list p t sigs envs program a b x y =
    one_list_fits (rules p t sigs) (lawful p t sigs envs program) a b ((placed_by_rules p t sigs envs program a).0 x) ((placed_by_rules p t sigs envs program b).0 y)
