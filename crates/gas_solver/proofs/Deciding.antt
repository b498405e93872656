-- A typed program has a plan or a fault.
use Rattle.std.proofs.Common.{◌≢◌, ◌⊎◌, inl, inr, ℕ, ◌<◌, ◌≤◌, List, length, slice_index, refl}
use Rattle.std.proofs.lemmas.Bool.{cases_lt}
use Rattle.sierra_types.specs.declared.program.Program.{Program}
use Rattle.type_table.specs.Table.{HasTypes}
use Rattle.type_table.specs.View.{TypesView}
use Rattle.libfunc_registry.specs.Signature.{HasSignatures}
use Rattle.libfunc_registry.specs.declared.sig.Sig.{Sig}
use Rattle.linear_check.specs.Typed.{TypedList, Typed}
use Rattle.least_needs.specs.Answers.{AreSmallNeeds}
use Rattle.least_needs.specs.Needs.{limit}
use Rattle.least_needs.proofs.Deciding.{needs_or_fault}
use Rattle.gas_solver.specs.declared.fault.GasFault.{GasFault}
use Rattle.gas_solver.specs.declared.fault.GasFault.TheVariants.{Cycle, TooLarge, Memory}
use Rattle.gas_solver.specs.Faults.{IsGasFault}
use Rattle.gas_solver.specs.Plans.{PlanView, IsPlan, amounts_from, entry_need}
use Rattle.gas_solver.specs.Terms.{entry_of, program_terms}
use Rattle.gas_solver.proofs.ClosedTerms.{closed}

module _ (p : Program) (t : TypesView) (sigs : List Sig) (main : ℕ) (no_plan : (plan : PlanView) → IsPlan p t sigs main plan → ⊥)
    (no_fault : (fault : GasFault) → fault ≢ Memory → IsGasFault p t sigs main fault → ⊥) where
  -- the needs are small enough; what a run needs to begin is so too, or not
  by_entry : (needs : List ℕ) → AreSmallNeeds (program_terms p t sigs) needs → (entry_need p (slice_index needs) main < limit) ⊎ (limit ≤ entry_need p (slice_index needs) main) → ⊥
  by_entry needs small (inl few) =
      no_plan
      (record { need = needs; amount = amounts_from p sigs (slice_index needs) 0 p.statements; entry = entry_need p (slice_index needs) main })
      (record { needs = small; amounts = refl; entry = refl; small = few })
  by_entry needs small (inr large) =
      no_fault (TooLarge (entry_of p main)) (λ is. cc) (inr (record { needs = needs; small = small; large = large; named = refl }))

pub plan_or_fault : (p : Program) (t : TypesView) (sigs : List Sig) (a : TypedList) (main : ℕ) → HasTypes p t → HasSignatures t p.libfuncs sigs → Typed p t sigs a → main < length p.functions
    → ((plan : PlanView) → IsPlan p t sigs main plan → ⊥) → ((fault : GasFault) → fault ≢ Memory → IsGasFault p t sigs main fault → ⊥) → ⊥
plan_or_fault p t sigs a main has signatures typed inside no_plan no_fault =
    needs_or_fault (program_terms p t sigs) (closed p t sigs a has signatures typed)
    (λ needs small. by_entry p t sigs main no_plan no_fault needs small (cases_lt (entry_need p (slice_index needs) main) limit))
    (λ s large. no_fault (TooLarge s) (λ is. cc) (inl large))
    (λ nodes cycle. no_fault (Cycle nodes) (λ is. cc) cycle)
