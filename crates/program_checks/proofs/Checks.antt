-- A program passes the checks or is refused, for one reason, and never both.
use Rattle.std.proofs.Common.{◌≡◌, ◌≢◌, ◌⊎◌, ℕ, ◌≤◌, ◌^◌, List, length, Result, Ok, Err, ap, subst, sym, ◌∙◌, inl, inr}
use Rattle.sierra_types.specs.declared.program.Program.{Program}
use Rattle.type_table.specs.View.{TypesView}
use Rattle.type_table.specs.Table.{HasTypes}
use Rattle.type_table.specs.Refusals as types
use Rattle.type_table.specs.declared.fault.TypeFault.{TypeFault}
use Rattle.type_table.proofs.Decided as types_laws
use Rattle.libfunc_registry.specs.declared.sig.Sig.{Sig}
use Rattle.libfunc_registry.specs.declared.sig.SigFault.{SigFault}
use Rattle.libfunc_registry.specs.Signature.{HasSignatures}
use Rattle.libfunc_registry.specs.Refusals as libfuncs
use Rattle.libfunc_registry.proofs.Decided as libfunc_laws
use Rattle.linear_check.specs.declared.fault.LinearFault.{LinearFault}
use Rattle.linear_check.specs.Typed.{TypedList}
use Rattle.linear_check.specs.FirstFault as statements
use Rattle.linear_check.proofs.Deciding as statement_laws
use Rattle.entry_check.specs.declared.fault.EntryFault.{EntryFault}
use Rattle.entry_check.specs.Entry.{entry_of}
use Rattle.entry_check.proofs.Entries.{entry_or_fault}
use Rattle.ap_refs.specs.declared.fault.RefFault.{RefFault}
use Rattle.ap_refs.specs.Prepared.{IsTypedProgram}
use Rattle.ap_refs.specs.Placed.{Placed, PlacedList}
use Rattle.ap_refs.specs.FirstFault as places
use Rattle.ap_refs.proofs.Deciding as place_faults
use Rattle.ap_refs.proofs.Through as place_laws
use Rattle.gas_solver.specs.declared.fault.GasFault.{GasFault}
use Rattle.gas_solver.specs.declared.fault.GasFault.TheVariants as gas_faults
use Rattle.gas_solver.specs.Faults.{IsGasFault}
use Rattle.gas_solver.specs.Plans.{PlanView, IsPlan}
use Rattle.gas_solver.proofs.Deciding as plan_laws
use Rattle.gas_solver.proofs.OneAnswer as gas_laws
use Rattle.program_checks.specs.declared.refusal.Refusal.{Refusal}
use Rattle.program_checks.specs.declared.refusal.Refusal.TheVariants as refusals
use Rattle.program_checks.specs.Checks.{Passes, HasPlan, Refused}
use Rattle.program_checks.proofs.Entries.{entry_below}

-- ---- What the tables of a program are is one

module _ (program : Program) (t u : TypesView) (first : HasTypes program t) (second : HasTypes program u) where
  same_types : t ≡ u
  same_types = types_laws.one_table program t u first second

  -- what holds over the one holds over the other
  moved : (P : TypesView → Type 0) → P t → P u
  moved P holds = subst P same_types holds

module _ (program : Program) (t u : TypesView) (sigs others : List Sig)
    (first : HasTypes program t) (second : HasTypes program u)
    (has : HasSignatures t program.libfuncs sigs) (has' : HasSignatures u program.libfuncs others) where
  pub same_signatures : sigs ≡ others
  same_signatures = libfunc_laws.one_signature u second.kept program.libfuncs sigs others (moved program t u first second (λ (x : TypesView). HasSignatures x program.libfuncs sigs) has) has'

  -- what holds over the one's tables holds over the other's
  pub moved_both : (P : TypesView → List Sig → Type 0) → P t sigs → P u others
  moved_both P holds = subst (P u) same_signatures (moved program t u first second (λ (x : TypesView). P x sigs) holds)

module _ (program : Program) (t u : TypesView) (sigs others : List Sig) (envs more : TypedList)
    (typed : IsTypedProgram program t sigs envs) (typed' : IsTypedProgram program u others more) where
  -- what holds over a typed program's tables holds over those that it is typed by too
  moved_all : (P : TypesView → List Sig → Type 0) → P t sigs → P u others
  moved_all P holds = moved_both program t u sigs others typed.types typed'.types typed.signatures typed'.signatures P holds

-- ---- Laws

no_types : (program : Program) (fault : TypeFault) (t : TypesView) → HasTypes program t → types.FirstFault program fault → ⊥
no_types program fault t has p = types_laws.never_both program t fault has p

no_libfuncs : (program : Program) (fault : SigFault) (t u : TypesView) (sigs : List Sig) → HasTypes program t → HasTypes program u → HasSignatures u program.libfuncs sigs
    → libfuncs.FirstFault t program.libfuncs fault → ⊥
no_libfuncs program fault t u sigs first second has p =
    libfunc_laws.never_both u second.kept program.libfuncs sigs fault has (moved program t u first second (λ (x : TypesView). libfuncs.FirstFault x program.libfuncs fault) p)

no_statements : (program : Program) (fault : LinearFault) (t u : TypesView) (sigs others : List Sig) (envs : TypedList) → HasTypes program t → HasSignatures t program.libfuncs sigs
    → IsTypedProgram program u others envs → statements.FirstFault program t sigs fault → ⊥
no_statements program fault t u sigs others envs has signatures typed p =
    statement_laws.never_both program u others typed.types envs fault typed.typed
    (moved_both program t u sigs others has typed.types signatures typed.signatures (λ x xs. statements.FirstFault program x xs fault) p)

no_places : (program : Program) (fault : RefFault) (t u : TypesView) (sigs others : List Sig) (envs more : TypedList) (a : PlacedList) → IsTypedProgram program t sigs envs
    → IsTypedProgram program u others more → Placed program u others a → places.FirstFault program t sigs fault → ⊥
no_places program fault t u sigs others envs more a typed typed' placed p =
    place_laws.never_both program u others more typed' a fault placed
    (moved_all program t u sigs others envs more typed typed' (λ x xs. places.FirstFault program x xs fault) p)

-- main is one, whatever the tables
pub same_entry : (program : Program) (t u : TypesView) → HasTypes program t → HasTypes program u → entry_of program t ≡ entry_of program u
same_entry program t u first second = ap (entry_of program) (same_types program t u first second)

two_entries : (program : Program) (t u : TypesView) (main : ℕ) (fault : EntryFault) → HasTypes program t → HasTypes program u → entry_of program t ≡ Ok main → entry_of program u ≡ Err fault → ⊥
two_entries program t u main fault first second is other = let same = same_entry program t u first second in absurd (cc)

same_fault : (a b : EntryFault) → ◌≡◌ {A = Result ℕ EntryFault} (Err a) (Err b) → a ≡ b
same_fault a b same = cc

pub same_place : (a b : ℕ) → ◌≡◌ {A = Result ℕ EntryFault} (Ok a) (Ok b) → a ≡ b
same_place a b same = cc

module _ (program : Program) (t u : TypesView) (sigs others : List Sig) (envs more : TypedList) (main other : ℕ)
    (typed : IsTypedProgram program t sigs envs) (typed' : IsTypedProgram program u others more)
    (is : entry_of program t ≡ Ok main) (is' : entry_of program u ≡ Ok other) where
  -- what holds over the one's tables and main holds over the other's
  moved_entry : (P : TypesView → List Sig → ℕ → Type 0) → P t sigs main → P u others other
  moved_entry P p =
      subst (P u others) (same_place main other (sym is ∙ same_entry program t u typed.types typed'.types ∙ is'))
      (moved_all program t u sigs others envs more typed typed' (λ x xs. P x xs main) p)

  moved_gas : (fault : GasFault) → IsGasFault program t sigs main fault → IsGasFault program u others other fault
  moved_gas fault p = moved_entry (λ x xs n. IsGasFault program x xs n fault) p

  moved_plan : (plan : PlanView) → IsPlan program t sigs main plan → IsPlan program u others other plan
  moved_plan plan p = moved_entry (λ x xs n. IsPlan program x xs n plan) p

  no_gas : (plan : PlanView) (fault : GasFault) → IsPlan program u others other plan → fault ≢ gas_faults.Memory → IsGasFault program t sigs main fault → ⊥
  no_gas plan fault planned some p = gas_laws.never_both program u others other plan fault planned some (moved_gas fault p)

  one_gas : (a b : GasFault) → a ≢ gas_faults.Memory → b ≢ gas_faults.Memory → IsGasFault program t sigs main a → IsGasFault program u others other b → a ≡ b
  one_gas a b some some' p q = gas_laws.one_fault program u others other a b some some' (moved_gas a p) q

-- two plans of one program are one
pub one_gas_plan : (program : Program) (a b : PlanView) → HasPlan program a → HasPlan program b → a ≡ b
one_gas_plan program a b p q =
    let one = p.1 in
    let other = q.1 in
    let moved = moved_plan program p.0.types q.0.types p.0.signatures q.0.signatures p.0.envs q.0.envs p.0.main q.0.main one.0 other.0 one.1 other.1 p.0.plan one.3 in
    p.2 ∙ gas_laws.one_plan program q.0.types q.0.signatures q.0.main p.0.plan q.0.plan moved other.3 ∙ sym q.2

-- two refusals of one program are one
pub one_refusal : (program : Program) (a b : Refusal) → Refused program a → Refused program b → a ≡ b
one_refusal program (refusals.Types a) (refusals.Types b) p q = ap refusals.Types (types_laws.one_fault program a b p q)
one_refusal program (refusals.Types a) (refusals.Libfuncs b) p q = absurd (no_types program a q.0 q.1 p)
one_refusal program (refusals.Types a) (refusals.Statements b) p q = absurd (no_types program a q.0 q.2 p)
one_refusal program (refusals.Types a) (refusals.Entry b) p q = absurd (no_types program a q.0 q.3.types p)
one_refusal program (refusals.Types a) (refusals.Places b) p q = absurd (no_types program a q.0 q.4.types p)
one_refusal program (refusals.Types a) (refusals.Gas b) p q = absurd (no_types program a q.0 q.5.types p)
one_refusal program (refusals.Types a) refusals.Memory p q = absurd q
one_refusal program (refusals.Libfuncs a) (refusals.Types b) p q = absurd (no_types program b p.0 p.1 q)
one_refusal program (refusals.Libfuncs a) (refusals.Libfuncs b) p q =
    ap refusals.Libfuncs (libfunc_laws.one_fault q.0 q.1.kept program.libfuncs a b (moved program p.0 q.0 p.1 q.1 (λ (t : TypesView). libfuncs.FirstFault t program.libfuncs a) p.2) q.2)
one_refusal program (refusals.Libfuncs a) (refusals.Statements b) p q = absurd (no_libfuncs program a p.0 q.0 q.1 p.1 q.2 q.3 p.2)
one_refusal program (refusals.Libfuncs a) (refusals.Entry b) p q = absurd (no_libfuncs program a p.0 q.0 q.1 p.1 q.3.types q.3.signatures p.2)
one_refusal program (refusals.Libfuncs a) (refusals.Places b) p q = absurd (no_libfuncs program a p.0 q.0 q.1 p.1 q.4.types q.4.signatures p.2)
one_refusal program (refusals.Libfuncs a) (refusals.Gas b) p q = absurd (no_libfuncs program a p.0 q.0 q.1 p.1 q.5.types q.5.signatures p.2)
one_refusal program (refusals.Libfuncs a) refusals.Memory p q = absurd q
one_refusal program (refusals.Statements a) (refusals.Types b) p q = absurd (no_types program b p.0 p.2 q)
one_refusal program (refusals.Statements a) (refusals.Libfuncs b) p q = absurd (no_libfuncs program b q.0 p.0 p.1 q.1 p.2 p.3 q.2)
one_refusal program (refusals.Statements a) (refusals.Statements b) p q =
    ap refusals.Statements (statement_laws.one_fault program q.0 q.1 a b
    (moved_both program p.0 q.0 p.1 q.1 p.2 q.2 p.3 q.3 (λ t sigs. statements.FirstFault program t sigs a) p.4) q.4)
one_refusal program (refusals.Statements a) (refusals.Entry b) p q = absurd (no_statements program a p.0 q.0 p.1 q.1 q.2 p.2 p.3 q.3 p.4)
one_refusal program (refusals.Statements a) (refusals.Places b) p q = absurd (no_statements program a p.0 q.0 p.1 q.1 q.2 p.2 p.3 q.4 p.4)
one_refusal program (refusals.Statements a) (refusals.Gas b) p q = absurd (no_statements program a p.0 q.0 p.1 q.1 q.2 p.2 p.3 q.5 p.4)
one_refusal program (refusals.Statements a) refusals.Memory p q = absurd q
one_refusal program (refusals.Entry a) (refusals.Types b) p q = absurd (no_types program b p.0 p.3.types q)
one_refusal program (refusals.Entry a) (refusals.Libfuncs b) p q = absurd (no_libfuncs program b q.0 p.0 p.1 q.1 p.3.types p.3.signatures q.2)
one_refusal program (refusals.Entry a) (refusals.Statements b) p q = absurd (no_statements program b q.0 p.0 q.1 p.1 p.2 q.2 q.3 p.3 q.4)
one_refusal program (refusals.Entry a) (refusals.Entry b) p q = ap refusals.Entry (same_fault a b (sym p.4 ∙ same_entry program p.0 q.0 p.3.types q.3.types ∙ q.4))
one_refusal program (refusals.Entry a) (refusals.Places b) p q = absurd (two_entries program q.0 p.0 q.3 a q.4.types p.3.types q.5 p.4)
one_refusal program (refusals.Entry a) (refusals.Gas b) p q = absurd (two_entries program q.0 p.0 q.3 a q.5.types p.3.types q.6 p.4)
one_refusal program (refusals.Entry a) refusals.Memory p q = absurd q
one_refusal program (refusals.Places a) (refusals.Types b) p q = absurd (no_types program b p.0 p.4.types q)
one_refusal program (refusals.Places a) (refusals.Libfuncs b) p q = absurd (no_libfuncs program b q.0 p.0 p.1 q.1 p.4.types p.4.signatures q.2)
one_refusal program (refusals.Places a) (refusals.Statements b) p q = absurd (no_statements program b q.0 p.0 q.1 p.1 p.2 q.2 q.3 p.4 q.4)
one_refusal program (refusals.Places a) (refusals.Entry b) p q = absurd (two_entries program p.0 q.0 p.3 b p.4.types q.3.types p.5 q.4)
one_refusal program (refusals.Places a) (refusals.Places b) p q =
    ap refusals.Places (place_faults.one_fault program q.0 q.1 a b (moved_all program p.0 q.0 p.1 q.1 p.2 q.2 p.4 q.4 (λ t sigs. places.FirstFault program t sigs a) p.6) q.6)
one_refusal program (refusals.Places a) (refusals.Gas b) p q = absurd (no_places program a p.0 q.0 p.1 q.1 p.2 q.2 q.4 p.4 q.5 q.7 p.6)
one_refusal program (refusals.Places a) refusals.Memory p q = absurd q
one_refusal program (refusals.Gas a) (refusals.Types b) p q = absurd (no_types program b p.0 p.5.types q)
one_refusal program (refusals.Gas a) (refusals.Libfuncs b) p q = absurd (no_libfuncs program b q.0 p.0 p.1 q.1 p.5.types p.5.signatures q.2)
one_refusal program (refusals.Gas a) (refusals.Statements b) p q = absurd (no_statements program b q.0 p.0 q.1 p.1 p.2 q.2 q.3 p.5 q.4)
one_refusal program (refusals.Gas a) (refusals.Entry b) p q = absurd (two_entries program p.0 q.0 p.3 b p.5.types q.3.types p.6 q.4)
one_refusal program (refusals.Gas a) (refusals.Places b) p q = absurd (no_places program b q.0 p.0 q.1 p.1 q.2 p.2 p.4 q.4 p.5 p.7 q.6)
one_refusal program (refusals.Gas a) (refusals.Gas b) p q =
    ap refusals.Gas (one_gas program p.0 q.0 p.1 q.1 p.2 q.2 p.3 q.3 p.5 q.5 p.6 q.6 a b p.8 q.8 p.9 q.9)
one_refusal program (refusals.Gas a) refusals.Memory p q = absurd q
one_refusal program refusals.Memory b p q = absurd p

module _ (program : Program) (few : length program.statements ≤ 2 ^ 20) (fails : Passes program → ⊥) (never : (refusal : Refusal) → Refused program refusal → ⊥) where
  -- main and places are known, and then a plan is
  gas_fails : (t : TypesView) (sigs : List Sig) (envs : TypedList) (main : ℕ) (placed : PlacedList) → IsTypedProgram program t sigs envs → entry_of program t ≡ Ok main → Placed program t sigs placed → ⊥
  gas_fails t sigs envs main placed typed is places =
      plan_laws.plan_or_fault program t sigs envs main typed.types typed.signatures typed.typed (entry_below program t main is)
      (λ plan planned. fails (record { types = t; signatures = sigs; envs = envs; main = main; places = placed; plan = plan }, (typed, is, places, planned)))
      (λ fault some first. never (refusals.Gas fault) (t, sigs, envs, main, placed, typed, is, places, some, first))

  -- main is known, and then places are
  places_fail : (t : TypesView) (sigs : List Sig) (envs : TypedList) → IsTypedProgram program t sigs envs → ((main : ℕ) × (entry_of program t ≡ Ok main)) ⊎ ((fault : EntryFault) × (entry_of program t ≡ Err fault)) → ⊥
  places_fail t sigs envs typed (inl main) = elim (place_laws.placed_or_fault program t sigs envs typed) [
    | inl placed ↦ gas_fails t sigs envs main.0 placed.0 typed main.1 placed.1
    | inr fault ↦ never (refusals.Places fault.0) (t, sigs, envs, main.0, typed, main.1, fault.1)
  ]
  places_fail t sigs envs typed (inr fault) = never (refusals.Entry fault.0) (t, sigs, envs, typed, fault.1)

  statements_fail : (t : TypesView) (sigs : List Sig) → HasTypes program t → HasSignatures t program.libfuncs sigs → ⊥
  statements_fail t sigs has signatures = elim (statement_laws.typed_or_fault program t sigs has) [
    | inl typed ↦ places_fail t sigs typed.0 (record { types = has; signatures = signatures; typed = typed.1; few = few }) (entry_or_fault program t)
    | inr fault ↦ never (refusals.Statements fault.0) (t, sigs, has, signatures, fault.1)
  ]

  all_fail : ⊥
  all_fail =
      types_laws.types_or_fault program
      (λ t has. elim (libfunc_laws.signatures_or_fault t has.kept program.libfuncs) [
        | inl signatures ↦ statements_fail t signatures.0 has signatures.1
        | inr fault ↦ never (refusals.Libfuncs fault.0) (t, has, fault.1)
      ])
      (λ fault first. never (refusals.Types fault) first)

pub passes_or_refused : (program : Program) → length program.statements ≤ 2 ^ 20 → (Passes program → ⊥) → ((refusal : Refusal) → Refused program refusal → ⊥) → ⊥
passes_or_refused program few fails never = all_fail program few fails never

pub never_both : (program : Program) (refusal : Refusal) → Refused program refusal → Passes program → ⊥
never_both program (refusals.Types fault) p q = no_types program fault q.0.types q.1.0.types p
never_both program (refusals.Libfuncs fault) p q = no_libfuncs program fault p.0 q.0.types q.0.signatures p.1 q.1.0.types q.1.0.signatures p.2
never_both program (refusals.Statements fault) p q = no_statements program fault p.0 q.0.types p.1 q.0.signatures q.0.envs p.2 p.3 q.1.0 p.4
never_both program (refusals.Entry fault) p q = two_entries program q.0.types p.0 q.0.main fault q.1.0.types p.3.types q.1.1 p.4
never_both program (refusals.Places fault) p q = no_places program fault p.0 q.0.types p.1 q.0.signatures p.2 q.0.envs q.0.places p.4 q.1.0 q.1.2 p.6
never_both program (refusals.Gas fault) p q =
    no_gas program p.0 q.0.types p.1 q.0.signatures p.2 q.0.envs p.3 q.0.main p.5 q.1.0 p.6 q.1.1 q.0.plan fault q.1.3 p.8 p.9
never_both program refusals.Memory p q = p
