-- The plan or the fault, from the least needs.
use Rattle.std.proofs.Common.{◌≡◌, ◌⊎◌, inr, ℕ, ◌+◌, ◌<◌, ◌≤◌, ◌^◌, List, length, get_or, slice_index, sym, ap, subst, ◌∙◌, arith}
use Rattle.std.proofs.lemmas.List.{get_or_default}
use Rattle.sierra_types.specs.declared.program.Program.{Program}
use Rattle.type_table.specs.Table.{HasTypes}
use Rattle.type_table.specs.View.{TypesView}
use Rattle.libfunc_registry.specs.declared.sig.Sig.{Sig}
use Rattle.linear_check.specs.Typed.{TypedList, Typed}
use Rattle.least_needs.specs.declared.terms.Term.{Term}
use Rattle.least_needs.specs.Answers.{AreSmallNeeds, IsTooLarge}
use Rattle.gas_solver.specs.Terms.{entry_of, program_terms}
use Rattle.gas_solver.specs.Plans.{PlanView, IsPlan, amounts_from}
use Rattle.gas_solver.specs.Faults.{IsEntryTooLarge}
use Rattle.gas_solver.proofs.Knowing.{entry_inside}
use Rattle.gas_solver.proofs.Listing.{length-program_terms}

pub needs_long : (p : Program) (t : TypesView) (sigs : List Sig) (terms : List (List Term)) (needs : List ℕ) → terms ≡ program_terms p t sigs → AreSmallNeeds terms needs → length needs ≡ length p.statements
needs_long p t sigs terms needs is small = small.for_each ∙ ap length is ∙ length-program_terms p t sigs

-- a number that is read
pub read_at : (xs : List ℕ) (i x : ℕ) → i < length xs → x ≡ get_or xs i x → x ≡ slice_index xs i
read_at xs i x lt is = is ∙ get_or_default xs i x 0 lt

pub need_small : (terms : List (List Term)) (needs : List ℕ) (s need : ℕ) → AreSmallNeeds terms needs → s < length needs → need ≡ get_or needs s need → need < 2 ^ 32
need_small terms needs s need small lt is =
    let below = small.small s (omega (arith, small.for_each)) in
    let same = read_at needs s need lt is in
    omega arith

pub entry_fault : (p : Program) (t : TypesView) (sigs : List Sig) (main s need entry : ℕ) (terms : List (List Term)) (needs : List ℕ) → terms ≡ program_terms p t sigs → AreSmallNeeds terms needs → s ≡ entry_of p main → s < length needs → need ≡ get_or needs s need
    → entry ≡ 100 + need → 2 ^ 32 ≤ entry → IsTooLarge (program_terms p t sigs) s ⊎ IsEntryTooLarge p t sigs main s
entry_fault p t sigs main s need entry terms needs is small named lt read sum large =
    let same = read_at needs s need lt read in
    let at : slice_index needs s ≡ slice_index needs (entry_of p main) = ap (slice_index needs) named in
    inr (record {
      needs = needs;
      small = subst (λ x. AreSmallNeeds x needs) is small;
      large = omega (arith, same, at, sum, large);
      named = named;
    })

pub plan_made : (p : Program) (t : TypesView) (sigs : List Sig) (main s need entry : ℕ) (terms : List (List Term)) (needs : List ℕ) (plan : PlanView) → terms ≡ program_terms p t sigs → AreSmallNeeds terms needs → s ≡ entry_of p main → s < length needs → need ≡ get_or needs s need
    → entry ≡ 100 + need → entry < 2 ^ 32 → plan.need ≡ needs → plan.amount ≡ amounts_from p sigs (slice_index needs) 0 p.statements → plan.entry ≡ entry → IsPlan p t sigs main plan
plan_made p t sigs main s need entry terms needs plan is small named lt read sum few same_needs same_amounts same_entry =
    let same = read_at needs s need lt read in
    let at : slice_index needs s ≡ slice_index plan.need (entry_of p main) = ap (slice_index needs) named ∙ ap (λ xs. slice_index xs (entry_of p main)) (sym same_needs) in
    record {
      needs = subst (AreSmallNeeds (program_terms p t sigs)) (sym same_needs) (subst (λ x. AreSmallNeeds x needs) is small);
      amounts = same_amounts ∙ ap (λ xs. amounts_from p sigs (slice_index xs) 0 p.statements) (sym same_needs);
      entry = same_entry ∙ sum ∙ ap (λ n. 100 + n) (same ∙ at);
      small = omega (arith, same_entry, few);
    }

pub start_inside : (p : Program) (t : TypesView) (sigs : List Sig) (a : TypedList) (main s : ℕ) (terms : List (List Term)) (needs : List ℕ) → HasTypes p t → Typed p t sigs a → main < length p.functions → terms ≡ program_terms p t sigs → AreSmallNeeds terms needs
    → s ≡ entry_of p main → s < length needs
start_inside p t sigs a main s terms needs has typed lt is small named =
    let long = needs_long p t sigs terms needs is small in
    let inside = entry_inside p t sigs a has typed main lt in
    omega arith
