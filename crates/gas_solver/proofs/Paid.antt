-- Each statement pays for its branches by its need.
use Rattle.std.proofs.Common.{◌≡◌, ◌⊎◌, inl, inr, Bool, true, false, eqb, if◌then◌else◌, ℕ, ◌+◌, ◌<◌, ◌≤◌, List, [], ◌∷◌, length, slice_index, Some, None, refl, sym, ap, subst, ◌∙◌, arith}
use Rattle.std.specs.List.{slice_get, Contains}
use Rattle.std.specs.Option.{option_and_then, unwrap_or}
use Rattle.std.proofs.lemmas.Bool.{eqb-true}
use Rattle.std.proofs.lemmas.Option.{none-some, same_Some, slice_get_within}
use Rattle.sierra_types.specs.declared.program.Program.{Program}
use Rattle.sierra_types.specs.declared.program.Statement.{Statement}
use Rattle.sierra_types.specs.declared.program.Statement.TheVariants.{Invoke, Return}
use Rattle.sierra_types.specs.declared.program.Branch.{Branch}
use Rattle.type_table.specs.Table.{HasTypes}
use Rattle.type_table.specs.View.{TypesView}
use Rattle.libfunc_registry.specs.declared.sig.Sig.{Sig}
use Rattle.libfunc_registry.specs.declared.libfunc.Libfunc.{Libfunc}
use Rattle.libfunc_registry.specs.declared.libfunc.Libfunc.TheVariants as libfuncs
use Rattle.libfunc_registry.specs.Fam.{fam_of}
use Rattle.libfunc_registry.specs.Signature.{HasSignatures}
use Rattle.cost_table.specs.Costs.{charge}
use Rattle.cost_table.proofs.Charges.{free_or_ten}
use Rattle.linear_check.specs.Statements.{declared, target_of}
use Rattle.linear_check.specs.Typed.{TypedList, Typed}
use Rattle.least_needs.specs.declared.terms.Targets.TheVariants.{Nowhere, One}
use Rattle.least_needs.specs.Needs.{AtLeast, sum_of}
use Rattle.least_needs.specs.Terms.{listed}
use Rattle.least_needs.proofs.AddedTerms.{paid}
use Rattle.least_needs.proofs.RankLaws.{at_least}
use Rattle.gas_solver.specs.Paying.{PaysFor, Pays}
use Rattle.gas_solver.specs.Plans.{PlanView, IsPlan, amount_by, amount_in, amounts_from}
use Rattle.gas_solver.specs.Terms.{branch_targets, branch_term, return_term, program_terms}
use Rattle.gas_solver.proofs.EdgeLaws.{branch_is_term}
use Rattle.gas_solver.proofs.FreeTerms.{free_at}
use Rattle.gas_solver.proofs.Listing.{length-program_terms, terms_at, amounts_at}

-- what is withdrawn at statement s, as the amounts have it
withdrawn : (p : Program) (sigs : List Sig) (need : ℕ → ℕ) (s : ℕ) (id args : List ℕ) (branches : List Branch) (sig : Sig) (b : Branch) → slice_get p.statements s ≡ Some (Invoke id args branches) → declared p sigs id ≡ Some sig → sig.libfunc ≡ libfuncs.WithdrawGas
    → slice_get branches 0 ≡ Some b → unwrap_or (unwrap_or (slice_get (amounts_from p sigs need 0 p.statements) s) None) 0 ≡ need (target_of s b.target)
withdrawn p sigs need s id args [] sig b here named is first = absurd (none-some b first)
withdrawn p sigs need s id args (c ∷ branches) sig b here named is first =
    let one : slice_get (amounts_from p sigs need 0 p.statements) s ≡ Some (option_and_then (λ sig. amount_by need s (c ∷ branches) sig.libfunc) (declared p sigs id)) = amounts_at p sigs need s (Invoke id args (c ∷ branches)) here in
    let two : option_and_then (λ sig. amount_by need s (c ∷ branches) sig.libfunc) (declared p sigs id) ≡ Some (need (target_of s c.target)) = ap (option_and_then (λ sig. amount_by need s (c ∷ branches) sig.libfunc)) named ∙ ap (amount_by need s (c ∷ branches)) is in
    let three : need (target_of s c.target) ≡ need (target_of s b.target) = ap (λ (d : Branch). need (target_of s d.target)) (same_Some c b first) in
    ap (λ o. unwrap_or (unwrap_or o None) 0) (one ∙ ap (λ o. Some o) two) ∙ three

pays_if : (need : ℕ → ℕ) (charged k s target taken : ℕ) (first : Bool) → charged + sum_of need (listed (if first then Nowhere else One target)) ≤ need s → (first ≡ true → taken ≡ need target) → charged + need target ≤ need s + (if first then taken else 0)
pays_if need charged k s target taken true pays is = (let same = is refl in omega arith)
pays_if need charged k s target taken false pays is = omega arith

pays : (p : Program) (need : ℕ → ℕ) (libfunc : Libfunc) (charged k s target taken : ℕ) → charged + sum_of need (listed (branch_targets p libfunc k target)) ≤ need s → (libfunc ≡ libfuncs.WithdrawGas → k ≡ 0 → taken ≡ need target)
    → PaysFor p need libfunc charged k s taken target
pays p need (libfuncs.FunctionCall f) charged k s target taken le is = omega arith
pays p need libfuncs.WithdrawGas charged k s target taken le is = pays_if need charged k s target taken (eqb k 0) le (λ first. is refl (eqb-true k 0 first))
pays p need _ charged k s target taken le is = omega arith

pub plan_pays : (p : Program) (t : TypesView) (sigs : List Sig) (a : TypedList) (main : ℕ) (plan : PlanView) → HasTypes p t → HasSignatures t p.libfuncs sigs → Typed p t sigs a → IsPlan p t sigs main plan → Pays p t sigs (amount_in plan) (slice_index plan.need)
plan_pays p t sigs a main plan has signatures typed is = record {
  branches = λ s id args branches sig k b here named at. pays p (slice_index plan.need) sig.libfunc (charge (fam_of t sig.libfunc) k) k s (target_of s b.target) (unwrap_or (amount_in plan s) 0)
      (paid (program_terms p t sigs) (slice_index plan.need) enough s (branch_term p t sig s k b) (within s (Invoke id args branches) here) (branch_is_term p t sigs s id args branches sig k b here named at))
      (λ withdraws first. taken s id args branches sig b here named withdraws (subst (λ n. slice_get branches n ≡ Some b) first at));
  returns = λ s args here. (let le = paid (program_terms p t sigs) (slice_index plan.need) enough s return_term (within s (Return args) here) (subst (λ xs. Contains xs return_term) (sym (terms_at p t sigs s (Return args) here)) (0, omega arith, refl)) in omega arith);
  free = λ s id args branches sig k b here named at. by_charge (λ none. free_at p t sigs a has signatures typed s id args branches sig k b here named at none) (free_or_ten (fam_of t sig.libfunc) k);
}
  where
    enough : AtLeast (program_terms p t sigs) (slice_index plan.need)
    enough = at_least (program_terms p t sigs) (slice_index plan.need) is.needs.are.meets

    within : (s : ℕ) (statement : Statement) → slice_get p.statements s ≡ Some statement → s < length (program_terms p t sigs)
    within s statement here = let lt = slice_get_within p.statements s statement here in omega (arith, length-program_terms p t sigs)

    taken : (s : ℕ) (id args : List ℕ) (branches : List Branch) (sig : Sig) (b : Branch) → slice_get p.statements s ≡ Some (Invoke id args branches) → declared p sigs id ≡ Some sig → sig.libfunc ≡ libfuncs.WithdrawGas → slice_get branches 0 ≡ Some b
        → unwrap_or (amount_in plan s) 0 ≡ slice_index plan.need (target_of s b.target)
    taken s id args branches sig b here named withdraws first =
        ap (λ l. unwrap_or (unwrap_or (slice_get l s) None) 0) is.amounts ∙ withdrawn p sigs (slice_index plan.need) s id args branches sig b here named withdraws first

    by_charge : {charged next target : ℕ} → (charged ≡ 0 → target ≡ next) → (charged ≡ 0) ⊎ (10 ≤ charged) → ((charged ≡ 0) × (target ≡ next)) ⊎ (10 ≤ charged)
    by_charge next (inl none) = inl (none, next none)
    by_charge next (inr ten) = inr ten
