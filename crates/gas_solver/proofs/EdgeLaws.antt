-- The edges of a program, as its terms have them.
use Rattle.std.proofs.Common.{◌≡◌, ◌↔◌, ◌⊎◌, inl, inr, ℕ, zero, suc, ◌+◌, ◌<◌, ◌≤◌, List, [], ◌∷◌, length, get_or, Option, Some, None, refl, sym, ap, subst, ◌∙◌, arith}
use Rattle.std.specs.List.{slice_get, Contains}
use Rattle.std.specs.Option.{option_map_or}
use Rattle.std.proofs.lemmas.Bool.{cases_lt}
use Rattle.std.proofs.lemmas.List.{get_or_past}
use Rattle.std.proofs.lemmas.List.Elements.{Contains-append_cases, Contains-append_left, Contains-append_right}
use Rattle.sierra_types.specs.declared.program.Program.{Program}
use Rattle.sierra_types.specs.declared.program.Statement.{Statement}
use Rattle.sierra_types.specs.declared.program.Statement.TheVariants.{Invoke, Return}
use Rattle.sierra_types.specs.declared.program.Branch.{Branch}
use Rattle.type_table.specs.Table.{HasTypes}
use Rattle.type_table.specs.View.{TypesView}
use Rattle.libfunc_registry.specs.declared.sig.Sig.{Sig}
use Rattle.libfunc_registry.specs.declared.libfunc.Libfunc.{Libfunc}
use Rattle.libfunc_registry.specs.declared.libfunc.Libfunc.TheVariants as libfuncs
use Rattle.libfunc_registry.specs.Fam.{fam_of}
use Rattle.libfunc_registry.specs.Signature.{HasSignatures}
use Rattle.cost_table.specs.Costs.{charge}
use Rattle.statement_walk.proofs.Arrivals.{inside}
use Rattle.linear_check.specs.Statements.{declared, target_of}
use Rattle.linear_check.specs.Typed.{TypedList, Typed}
use Rattle.graph_cycles.specs.Graph.{Leads}
use Rattle.least_needs.specs.declared.terms.Term.{Term}
use Rattle.least_needs.specs.Terms.{FreeLeadOn, all_targets, graph_of, listed, terms_of}
use Rattle.least_needs.proofs.ClosedTerms.{targets_in}
use Rattle.gas_solver.specs.Edges.{BranchLeads, StatementLeads}
use Rattle.gas_solver.specs.Terms.{branch_term, branch_terms, return_term, statement_terms, program_terms}
use Rattle.gas_solver.proofs.FreeTerms.{free_at, branch_of_term, term_of_branch, term_leads, leads_term}
use Rattle.gas_solver.proofs.Listing.{length-program_terms, terms_at}

-- a term of a statement is a branch's, or a return's

abbrev pub IsBranchTerm : Program → TypesView → List Sig → ℕ → Term → Type 0
IsBranchTerm p t sigs s x = (id : List ℕ) × (args : List ℕ) × (branches : List Branch) × (sig : Sig) × (k : ℕ) × (b : Branch)
    × (slice_get p.statements s ≡ Some (Invoke id args branches)) × (declared p sigs id ≡ Some sig) × (slice_get branches k ≡ Some b) × (branch_term p t sig s k b ≡ x)

only_return : (x : Term) → Contains (return_term ∷ []) x → x ≡ return_term
only_return x at = by_place at.0 at.1 at.2
  where
    by_place : (i : ℕ) → i < 1 → get_or (return_term ∷ []) i x ≡ x → x ≡ return_term
    by_place zero lt is = sym is
    by_place (suc i) lt is = absurd (omega arith)

statement_term : (p : Program) (t : TypesView) (sigs : List Sig) (s : ℕ) (statement : Statement) (x : Term) → slice_get p.statements s ≡ Some statement → Contains (statement_terms p t sigs s statement) x → (x ≡ return_term) ⊎ IsBranchTerm p t sigs s x
statement_term p t sigs s (Return args) x here at = inl (only_return x at)
statement_term p t sigs s (Invoke id args branches) x here at = by_sig (declared p sigs id) refl at
  where
    by_sig : (o : Option Sig) → declared p sigs id ≡ o → Contains (option_map_or (λ sig. branch_terms p t sig s 0 branches) o []) x → (x ≡ return_term) ⊎ IsBranchTerm p t sigs s x
    by_sig None is at = absurd (omega (arith, at.1))
    by_sig (Some sig) is at =
        let found = branch_of_term p t sig s 0 branches x at in
        let place : 0 + found.0 ≡ found.0 = omega arith in
        inr (id, args, branches, sig, found.0, found.1, here, is, found.2, ap (λ n. branch_term p t sig s n found.1) (sym place) ∙ found.3)

pub term_is : (p : Program) (t : TypesView) (sigs : List Sig) (s : ℕ) (x : Term) → Contains (terms_of (program_terms p t sigs) s) x → (x ≡ return_term) ⊎ IsBranchTerm p t sigs s x
term_is p t sigs s x at = by_place (cases_lt s (length p.statements)) at
  where
    by_place : (s < length p.statements) ⊎ (length p.statements ≤ s) → Contains (get_or (program_terms p t sigs) s []) x → (x ≡ return_term) ⊎ IsBranchTerm p t sigs s x
    by_place (inl lt) at =
        let statement = inside p.statements s lt in
        statement_term p t sigs s statement.0 x statement.1 (subst (λ xs. Contains xs x) (terms_at p t sigs s statement.0 statement.1) at)
    by_place (inr past) at =
        let empty : Contains {X = Term} [] x = subst (λ xs. Contains xs x) (get_or_past (program_terms p t sigs) s [] (omega (arith, length-program_terms p t sigs))) at in
        absurd (omega (arith, empty.1))

pub branch_is_term : (p : Program) (t : TypesView) (sigs : List Sig) (s : ℕ) (id args : List ℕ) (branches : List Branch) (sig : Sig) (k : ℕ) (b : Branch) → slice_get p.statements s ≡ Some (Invoke id args branches) → declared p sigs id ≡ Some sig → slice_get branches k ≡ Some b
    → Contains (terms_of (program_terms p t sigs) s) (branch_term p t sig s k b)
branch_is_term p t sigs s id args branches sig k b here named at =
    let one = term_of_branch p t sig s 0 branches k b at in
    let place : 0 + k ≡ k = omega arith in
    let two = subst (λ n. Contains (branch_terms p t sig s 0 branches) (branch_term p t sig s n b)) place one in
    let three = subst (λ o. Contains (option_map_or (λ sig. branch_terms p t sig s 0 branches) o []) (branch_term p t sig s k b)) (sym named) two in
    subst (λ xs. Contains xs (branch_term p t sig s k b)) (sym (terms_at p t sigs s (Invoke id args branches) here)) three

-- the term that has a target

term_with : (xs : List Term) (u : ℕ) → Contains (all_targets xs) u → (x : Term) × Contains xs x × Contains (listed x.targets) u
term_with [] u at = absurd (omega (arith, at.1))
term_with (x ∷ xs) u at = by_term (Contains-append_cases (listed x.targets) (all_targets xs) u at) (term_with xs u)
  where
    by_term : Contains (listed x.targets) u ⊎ Contains (all_targets xs) u → (Contains (all_targets xs) u → (y : Term) × Contains xs y × Contains (listed y.targets) u) → (y : Term) × Contains (x ∷ xs) y × Contains (listed y.targets) u
    by_term (inl here) rest = (x, (0, omega arith, refl), here)
    by_term (inr later) rest = let more = rest later in (more.0, (suc more.1.0, omega (arith, more.1.1), more.1.2), more.2)

target_with : (xs : List Term) (x : Term) (u : ℕ) → Contains xs x → Contains (listed x.targets) u → Contains (all_targets xs) u
target_with [] x u at leads = absurd (omega (arith, at.1))
target_with (y ∷ xs) x u at leads = by_place at.0 at.1 at.2 (λ later. target_with xs x u later leads)
  where
    by_place : (i : ℕ) → i < length (y ∷ xs) → get_or (y ∷ xs) i x ≡ x → (Contains xs x → Contains (all_targets xs) u) → Contains (all_targets (y ∷ xs)) u
    by_place zero lt is rest = Contains-append_left (listed y.targets) (all_targets xs) u (subst (λ (z : Term). Contains (listed z.targets) u) (sym is) leads)
    by_place (suc i) lt is rest = Contains-append_right (listed y.targets) (all_targets xs) u (rest (i, omega arith, is))

leads_so : (p : Program) (t : TypesView) (sigs : List Sig) (s u : ℕ) (x : Term) → (x ≡ return_term) ⊎ IsBranchTerm p t sigs s x → Contains (listed x.targets) u → StatementLeads p sigs s u
leads_so p t sigs s u x (inl is) leads =
    let empty : Contains {X = ℕ} [] u = subst (λ (y : Term). Contains (listed y.targets) u) is leads in
    absurd (omega (arith, empty.1))
leads_so p t sigs s u x (inr (id, args, branches, sig, k, b, here, named, at, is)) leads = record {
  id = id;
  args = args;
  branches = branches;
  here = here;
  sig = sig;
  declared_as = named;
  k = k;
  branch = b;
  at = at;
  leads = term_leads p sig.libfunc k (target_of s b.target) u (subst (λ (y : Term). Contains (listed y.targets) u) (sym is) leads);
}

-- a statement leads by its terms where it leads by its branches
pub edges : (p : Program) (t : TypesView) (sigs : List Sig) (s u : ℕ) → Leads (graph_of (program_terms p t sigs)) s u ↔ StatementLeads p sigs s u
edges p t sigs s u = (there, back)
  where
    there : Leads (graph_of (program_terms p t sigs)) s u → StatementLeads p sigs s u
    there leads =
        let found = term_with (terms_of (program_terms p t sigs) s) u (subst (λ ts. Contains ts u) (targets_in (program_terms p t sigs) s) leads) in
        leads_so p t sigs s u found.0 (term_is p t sigs s found.0 found.1) found.2

    back : StatementLeads p sigs s u → Leads (graph_of (program_terms p t sigs)) s u
    back e =
        let term = branch_is_term p t sigs s e.id e.args e.branches e.sig e.k e.branch e.here e.declared_as e.at in
        let leads = leads_term p e.sig.libfunc e.k (target_of s e.branch.target) u e.leads in
        subst (λ ts. Contains ts u) (sym (targets_in (program_terms p t sigs) s)) (target_with (terms_of (program_terms p t sigs) s) (branch_term p t e.sig s e.k e.branch) u term leads)

-- a free term leads to later statements

free_leads : (p : Program) (t : TypesView) (libfunc : Libfunc) (k s target u : ℕ) → BranchLeads p libfunc k target u → charge (fam_of t libfunc) k ≡ 0 → target ≡ s + 1 → s < u
free_leads p t (libfuncs.FunctionCall f) k s target u leads free next = absurd (omega arith)
free_leads p t libfuncs.WithdrawGas k s target u leads free next = (let is = leads.1 in omega arith)
free_leads p t _ k s target u leads free next = omega arith

pub free_on : (p : Program) (t : TypesView) (sigs : List Sig) (a : TypedList) → HasTypes p t → HasSignatures t p.libfuncs sigs → Typed p t sigs a → FreeLeadOn (program_terms p t sigs)
free_on p t sigs a has signatures typed s x u at none leads = by_term (term_is p t sigs s x at)
  where
    by_term : (x ≡ return_term) ⊎ IsBranchTerm p t sigs s x → s < u
    by_term (inl is) = let paid : x.cost ≡ 100 = ap (λ (y : Term). y.cost) is in absurd (omega arith)
    by_term (inr (id, args, branches, sig, k, b, here, named, branch, is)) =
        let free : charge (fam_of t sig.libfunc) k ≡ 0 = ap (λ (y : Term). y.cost) is ∙ none in
        let next = free_at p t sigs a has signatures typed s id args branches sig k b here named branch free in
        free_leads p t sig.libfunc k s (target_of s b.target) u (term_leads p sig.libfunc k (target_of s b.target) u (subst (λ (y : Term). Contains (listed y.targets) u) (sym is) leads)) free next
