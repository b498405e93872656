-- A program has one plan or one fault.
use Rattle.std.proofs.Common.{◌≡◌, ◌≢◌, ◌⊎◌, inl, inr, ℕ, ◌<◌, ◌≤◌, List, Option, slice_index, refl, sym, ap, ◌∙◌, arith}
use Rattle.sierra_types.specs.declared.program.Program.{Program}
use Rattle.type_table.specs.View.{TypesView}
use Rattle.libfunc_registry.specs.declared.sig.Sig.{Sig}
use Rattle.least_needs.specs.Answers.{IsTooLarge}
use Rattle.least_needs.specs.Needs.{limit}
use Rattle.least_needs.specs.Terms.{graph_of}
use Rattle.least_needs.proofs.OneAnswer as least
use Rattle.gas_solver.specs.declared.fault.GasFault.{GasFault}
use Rattle.gas_solver.specs.declared.fault.GasFault.TheVariants.{Cycle, TooLarge, Memory}
use Rattle.gas_solver.specs.Faults.{IsEntryTooLarge, IsGasFault}
use Rattle.gas_solver.specs.Plans.{PlanView, IsPlan, amounts_from, entry_need}
use Rattle.gas_solver.specs.Terms.{program_terms}

abbrev made : List ℕ → List (Option ℕ) → ℕ → PlanView
made need amount entry = record { need = need; amount = amount; entry = entry }

-- plans with equal parts
pub same_plan : (x y : PlanView) → x.need ≡ y.need → x.amount ≡ y.amount → x.entry ≡ y.entry → x ≡ y
same_plan x y need amount entry = ap (λ n. made n x.amount x.entry) need ∙ ap (λ m. made y.need m x.entry) amount ∙ ap (λ e. made y.need y.amount e) entry

pub one_plan : (p : Program) (t : TypesView) (sigs : List Sig) (main : ℕ) (plan other : PlanView) → IsPlan p t sigs main plan → IsPlan p t sigs main other → plan ≡ other
one_plan p t sigs main plan other is also =
    let need : plan.need ≡ other.need = least.one_list (program_terms p t sigs) plan.need other.need is.needs also.needs in
    let amount : plan.amount ≡ other.amount = is.amounts ∙ ap (λ xs. amounts_from p sigs (slice_index xs) 0 p.statements) need ∙ sym also.amounts in
    let entry : plan.entry ≡ other.entry = is.entry ∙ ap (λ xs. entry_need p (slice_index xs) main) need ∙ sym also.entry in
    same_plan plan other need amount entry

-- a plan's needs and an entry that needs too much
not_both : (p : Program) (t : TypesView) (sigs : List Sig) (main s : ℕ) (plan : PlanView) → IsPlan p t sigs main plan → IsEntryTooLarge p t sigs main s → ⊥
not_both p t sigs main s plan is large =
    let need : plan.need ≡ large.needs = least.one_list (program_terms p t sigs) plan.need large.needs is.needs large.small in
    let entry : entry_need p (slice_index plan.need) main ≡ entry_need p (slice_index large.needs) main = ap (λ xs. entry_need p (slice_index xs) main) need in
    let above : limit ≤ entry_need p (slice_index large.needs) main = large.large in
    absurd (contrary plan.entry (entry_need p (slice_index plan.need) main) (entry_need p (slice_index large.needs) main) is.entry is.small entry above)
  where
    contrary : (a b d : ℕ) → a ≡ b → a < limit → b ≡ d → limit ≤ d → ⊥
    contrary a b d one two three four = omega arith

-- out of memory is no fault of a program
pub not_memory : (p : Program) (t : TypesView) (sigs : List Sig) (main : ℕ) (x : GasFault) → IsGasFault p t sigs main x → x ≢ Memory
not_memory p t sigs main (Cycle statements) is = λ same. cc
not_memory p t sigs main (TooLarge s) is = λ same. cc
not_memory p t sigs main Memory is = absurd is

pub never_both : (p : Program) (t : TypesView) (sigs : List Sig) (main : ℕ) (plan : PlanView) (fault : GasFault) → IsPlan p t sigs main plan → fault ≢ Memory → IsGasFault p t sigs main fault → ⊥
never_both p t sigs main plan (Cycle statements) is not fault = least.not_small_on_a_cycle (program_terms p t sigs) plan.need statements is.needs fault
never_both p t sigs main plan (TooLarge s) is not (inl large) = least.not_small_and_large (program_terms p t sigs) plan.need s is.needs large
never_both p t sigs main plan (TooLarge s) is not (inr large) = not_both p t sigs main s plan is large
never_both p t sigs main plan Memory is not fault = not refl

cycle_or_large : (p : Program) (t : TypesView) (sigs : List Sig) (main s : ℕ) (statements : List ℕ) → IsGasFault p t sigs main (Cycle statements) → IsTooLarge (program_terms p t sigs) s ⊎ IsEntryTooLarge p t sigs main s → ⊥
cycle_or_large p t sigs main s statements cycle (inl large) = least.not_large_on_a_cycle (program_terms p t sigs) s statements large cycle
cycle_or_large p t sigs main s statements cycle (inr large) = least.not_small_on_a_cycle (program_terms p t sigs) large.needs statements large.small cycle

one_large : (p : Program) (t : TypesView) (sigs : List Sig) (main s u : ℕ) → IsTooLarge (program_terms p t sigs) s ⊎ IsEntryTooLarge p t sigs main s → IsTooLarge (program_terms p t sigs) u ⊎ IsEntryTooLarge p t sigs main u → s ≡ u
one_large p t sigs main s u (inl one) (inl two) = least.one_statement (program_terms p t sigs) s u one two
one_large p t sigs main s u (inl one) (inr two) = absurd (least.not_small_and_large (program_terms p t sigs) two.needs s two.small one)
one_large p t sigs main s u (inr one) (inl two) = absurd (least.not_small_and_large (program_terms p t sigs) one.needs u one.small two)
one_large p t sigs main s u (inr one) (inr two) = one.named ∙ sym two.named

pub one_fault : (p : Program) (t : TypesView) (sigs : List Sig) (main : ℕ) (x y : GasFault) → x ≢ Memory → y ≢ Memory → IsGasFault p t sigs main x → IsGasFault p t sigs main y → x ≡ y
one_fault p t sigs main (Cycle one) (Cycle two) not neither is also = ap Cycle (least.one_cycle (graph_of (program_terms p t sigs)) one two is also)
one_fault p t sigs main (Cycle one) (TooLarge s) not neither is also = absurd (cycle_or_large p t sigs main s one is also)
one_fault p t sigs main (Cycle one) Memory not neither is also = absurd (neither refl)
one_fault p t sigs main (TooLarge s) (Cycle two) not neither is also = absurd (cycle_or_large p t sigs main s two also is)
one_fault p t sigs main (TooLarge s) (TooLarge u) not neither is also = ap TooLarge (one_large p t sigs main s u is also)
one_fault p t sigs main (TooLarge s) Memory not neither is also = absurd (neither refl)
one_fault p t sigs main Memory y not neither is also = absurd (not refl)
