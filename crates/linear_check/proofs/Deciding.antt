-- A program is typed, or its walk has one first fault.
use Rattle.std.proofs.Common.{◌≡◌, ◌↔◌, ◌⊎◌, List, Result, Ok, Err, inl, inr}
use Rattle.sierra_types.specs.declared.program.Program.{Program}
use Rattle.type_table.specs.Table.{HasTypes}
use Rattle.type_table.specs.View.{TypesView}
use Rattle.libfunc_registry.specs.declared.sig.Sig.{Sig}
use Rattle.statement_walk.specs.Walk.{Stops}
use Rattle.statement_walk.proofs.Arrivals.{err-ok}
use Rattle.statement_walk.proofs.Stopping.{stops_some, stops_same, joins}
use Rattle.statement_walk.proofs.Stopping.{one_list as one_list_fits}
use Rattle.linear_check.specs.declared.fault.LinearFault.{LinearFault}
use Rattle.linear_check.specs.FirstFault.{FirstFault}
use Rattle.linear_check.specs.Flow.{rules}
use Rattle.linear_check.specs.Typed.{TypedList, Typed}
use Rattle.linear_check.proofs.Joining.{typed_by_rules}
use Rattle.linear_check.proofs.Lawfulness.{rules_lawful}

pub through : (p : Program) (t : TypesView) (sigs : List Sig) → HasTypes p t → (a : TypedList) → Typed p t sigs a ↔ Stops (rules p t sigs) (Ok a)
through p t sigs has a =
    let typed = typed_by_rules p t sigs has a in
    let fits = joins (rules p t sigs) (rules_lawful p t sigs) a in
    ((λ is. fits.0 (typed.0 is)), (λ stops. typed.1 (fits.1 stops)))

either : (p : Program) (t : TypesView) (sigs : List Sig) → HasTypes p t → (x : Result TypedList LinearFault) → Stops (rules p t sigs) x → ((a : TypedList) × Typed p t sigs a) ⊎ ((fault : LinearFault) × FirstFault p t sigs fault)
either p t sigs has (Ok a) stops = inl (a, (through p t sigs has a).1 stops)
either p t sigs has (Err fault) stops = inr (fault, stops)

pub typed_or_fault : (p : Program) (t : TypesView) (sigs : List Sig) → HasTypes p t → ((a : TypedList) × Typed p t sigs a) ⊎ ((fault : LinearFault) × FirstFault p t sigs fault)
typed_or_fault p t sigs has = let some = stops_some (rules p t sigs) (rules_lawful p t sigs) in either p t sigs has some.0 some.1

pub never_both : (p : Program) (t : TypesView) (sigs : List Sig) → HasTypes p t → (a : TypedList) (fault : LinearFault) → Typed p t sigs a → FirstFault p t sigs fault → ⊥
never_both p t sigs has a fault typed first = err-ok fault a (stops_same (rules p t sigs) (Err fault) (Ok a) first ((through p t sigs has a).0 typed))

pub one_list : (p : Program) (t : TypesView) (sigs : List Sig) → HasTypes p t → (a b : TypedList) → Typed p t sigs a → Typed p t sigs b → a ≡ b
one_list p t sigs has a b x y = one_list_fits (rules p t sigs) (rules_lawful p t sigs) a b ((typed_by_rules p t sigs has a).0 x) ((typed_by_rules p t sigs has b).0 y)

pub one_fault : (p : Program) (t : TypesView) (sigs : List Sig) (x y : LinearFault) → FirstFault p t sigs x → FirstFault p t sigs y → x ≡ y
one_fault p t sigs x y first second = let same = stops_same (rules p t sigs) (Err x) (Err y) first second in cc
