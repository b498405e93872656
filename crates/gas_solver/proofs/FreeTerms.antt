-- What is free leads to the next statement.
use Rattle.std.proofs.Common.{◌≡◌, ◌≢◌, inl, inr, Bool, true, false, eqb, if◌then◌else◌, ℕ, zero, suc, ◌+◌, ◌<◌, ◌≤◌, List, [], ◌∷◌, length, map, get_or, Some, refl, sym, ap, subst, ◌∙◌, arith}
use Rattle.std.specs.List.{slice_get, Contains}
use Rattle.std.proofs.lemmas.Bool.{false≢true, eqb-true, eqb-false}
use Rattle.std.proofs.lemmas.Option.{none-some, same_Some}
use Rattle.sierra_types.specs.declared.program.Program.{Program}
use Rattle.sierra_types.specs.declared.program.Statement.TheVariants.{Invoke}
use Rattle.sierra_types.specs.declared.program.Branch.{Branch}
use Rattle.type_table.specs.Table.{HasTypes}
use Rattle.type_table.specs.View.{TypesView}
use Rattle.libfunc_registry.specs.declared.sig.Sig.{Sig}
use Rattle.libfunc_registry.specs.declared.libfunc.Libfunc.{Libfunc}
use Rattle.libfunc_registry.specs.declared.libfunc.Libfunc.TheVariants as libfuncs
use Rattle.libfunc_registry.specs.Control.{jump}
use Rattle.libfunc_registry.specs.Fam.{control, fam_of, gives}
use Rattle.libfunc_registry.specs.Signature.{HasSignatures}
use Rattle.cost_table.specs.Costs.{charge}
use Rattle.cost_table.proofs.Charges.{leaving_charged}
use Rattle.cost_table.proofs.Signatures.{branches_many}
use Rattle.linear_check.specs.Statements.{declared, is_jump, target_of}
use Rattle.linear_check.specs.Typed.{TypedList, FallsThrough, Typed}
use Rattle.least_needs.specs.declared.terms.Targets.TheVariants.{Nowhere, One}
use Rattle.least_needs.specs.declared.terms.Term.{Term}
use Rattle.least_needs.specs.Terms.{listed}
use Rattle.gas_solver.specs.Edges.{BranchLeads}
use Rattle.gas_solver.specs.Terms.{entry_of, branch_targets, branch_term, branch_terms}
use Rattle.gas_solver.proofs.Knowing.{invoked, known}

is_jump_only : (libfunc : Libfunc) → is_jump libfunc ≡ true → libfunc ≡ libfuncs.Jump
is_jump_only libfuncs.Jump is = refl
is_jump_only _ is = absurd (false≢true is)

-- a single branch
one_way : (t : TypesView) (libfunc : Libfunc) (s : ℕ) (b : Branch) (jumps : Bool) → is_jump libfunc ≡ jumps → FallsThrough jumps (b.target ∷ []) → charge (fam_of t libfunc) 0 ≡ 0 → target_of s b.target ≡ s + 1
one_way t libfunc s b true is falls free =
    let paid : 100 ≤ charge (control jump) 0 = omega arith in
    let same : charge (fam_of t libfunc) 0 ≡ charge (control jump) 0 = ap (λ l. charge (fam_of t l) 0) (is_jump_only libfunc is) in
    absurd (omega arith)
one_way t libfunc s b false is falls free = ap (target_of s) falls

falls_on : (t : TypesView) (sig : Sig) (s : ℕ) (branches : List Branch) (k : ℕ) (b : Branch) → FallsThrough (is_jump sig.libfunc) (map (λ b. b.target) branches) → length branches ≡ length (gives (fam_of t sig.libfunc)) → slice_get branches k ≡ Some b
    → charge (fam_of t sig.libfunc) k ≡ 0 → target_of s b.target ≡ s + 1
falls_on t sig s [] k b falls many at free = absurd (none-some b at)
falls_on t sig s (c ∷ []) zero b falls many at free =
    let same = same_Some c b at in
    subst (λ (d : Branch). target_of s d.target ≡ s + 1) same (one_way t sig.libfunc s c (is_jump sig.libfunc) refl falls free)
falls_on t sig s (c ∷ []) (suc k) b falls many at free = absurd (none-some b at)
falls_on t sig s (c ∷ d ∷ branches) k b falls many at free =
    let paid : 100 ≤ charge (fam_of t sig.libfunc) k = leaving_charged (fam_of t sig.libfunc) k (omega (arith, many)) in
    absurd (omega arith)

-- a free branch of a statement
pub free_at : (p : Program) (t : TypesView) (sigs : List Sig) (a : TypedList) → HasTypes p t → HasSignatures t p.libfuncs sigs → Typed p t sigs a → (s : ℕ) (id args : List ℕ) (branches : List Branch) (sig : Sig) (k : ℕ) (b : Branch)
    → slice_get p.statements s ≡ Some (Invoke id args branches) → declared p sigs id ≡ Some sig → slice_get branches k ≡ Some b → charge (fam_of t sig.libfunc) k ≡ 0 → target_of s b.target ≡ s + 1
free_at p t sigs a has signatures typed s id args branches sig k b here named at free =
    let found = (invoked p t sigs a typed s id args branches here).1 in
    let same : found.sig ≡ sig = same_Some found.sig sig (sym found.declared_as ∙ named) in
    let falls = subst (λ (x : Sig). FallsThrough (is_jump x.libfunc) (map (λ b. b.target) branches)) same found.shaped.falls_through in
    let is = known p t sigs a has signatures typed s (Invoke id args branches) here sig named in
    let many : length branches ≡ length (gives (fam_of t sig.libfunc)) = is.many ∙ branches_many t sig.branches (gives (fam_of t sig.libfunc)) is.signature.1.branches in
    falls_on t sig s branches k b falls many at free

-- the branch of a term

pub branch_of_term : (p : Program) (t : TypesView) (sig : Sig) (s k : ℕ) (branches : List Branch) (x : Term) → Contains (branch_terms p t sig s k branches) x → (i : ℕ) × (b : Branch) × (slice_get branches i ≡ Some b) × (branch_term p t sig s (k + i) b ≡ x)
branch_of_term p t sig s k [] x at = absurd (omega (arith, at.1))
branch_of_term p t sig s k (b ∷ branches) x at = by_place at.0 at.1 at.2 (branch_of_term p t sig s (k + 1) branches x)
  where
    Found : ℕ → List Branch → Type 0
    Found k bs = (i : ℕ) × (c : Branch) × (slice_get bs i ≡ Some c) × (branch_term p t sig s (k + i) c ≡ x)

    by_place : (i : ℕ) → i < length (branch_terms p t sig s k (b ∷ branches)) → get_or (branch_terms p t sig s k (b ∷ branches)) i x ≡ x → (Contains (branch_terms p t sig s (k + 1) branches) x → Found (k + 1) branches) → Found k (b ∷ branches)
    by_place zero lt is rest = (let place : k + 0 ≡ k = omega arith in (0, b, refl, ap (λ n. branch_term p t sig s n b) place ∙ is))
    by_place (suc i) lt is rest =
        let more = rest (i, omega arith, is) in
        let place : k + suc more.0 ≡ k + 1 + more.0 = omega arith in
        (suc more.0, more.1, more.2, ap (λ n. branch_term p t sig s n more.1) place ∙ more.3)

pub term_of_branch : (p : Program) (t : TypesView) (sig : Sig) (s k : ℕ) (branches : List Branch) (i : ℕ) (b : Branch) → slice_get branches i ≡ Some b → Contains (branch_terms p t sig s k branches) (branch_term p t sig s (k + i) b)
term_of_branch p t sig s k [] i b at = absurd (none-some b at)
term_of_branch p t sig s k (c ∷ branches) zero b at =
    let place : k ≡ k + 0 = omega arith in
    (0, omega arith, ap (branch_term p t sig s k) (same_Some c b at) ∙ ap (λ n. branch_term p t sig s n b) place)
term_of_branch p t sig s k (c ∷ branches) (suc i) b at =
    let more = term_of_branch p t sig s (k + 1) branches i b at in
    let place : k + 1 + i ≡ k + suc i = omega arith in
    let moved = subst (λ n. Contains (branch_terms p t sig s (k + 1) branches) (branch_term p t sig s n b)) place more in
    (suc moved.0, omega (arith, moved.1), moved.2)

-- where a term leads

only_one : (t u : ℕ) → Contains (t ∷ []) u → u ≡ t
only_one t u at = by_place at.0 at.1 at.2
  where
    by_place : (i : ℕ) → i < 1 → get_or (t ∷ []) i u ≡ u → u ≡ t
    by_place zero lt is = sym is
    by_place (suc i) lt is = absurd (omega arith)

leads_if : (k t u : ℕ) (first : Bool) → eqb k 0 ≡ first → Contains (listed (if first then Nowhere else One t)) u → (k ≢ 0) × (u ≡ t)
leads_if k t u true is at = absurd (omega (arith, at.1))
leads_if k t u false is at = (eqb-false k 0 is, only_one t u at)

if_leads : (k t u : ℕ) (first : Bool) → eqb k 0 ≡ first → (k ≢ 0) × (u ≡ t) → Contains (listed (if first then Nowhere else One t)) u
if_leads k t u true is leads = absurd (leads.0 (eqb-true k 0 is))
if_leads k t u false is leads = (0, omega arith, sym leads.1)

pub term_leads : (p : Program) (libfunc : Libfunc) (k t u : ℕ) → Contains (listed (branch_targets p libfunc k t)) u → BranchLeads p libfunc k t u
term_leads p (libfuncs.FunctionCall f) k t u at = by_place at.0 at.1 at.2
  where
    by_place : (i : ℕ) → i < 2 → get_or (entry_of p f ∷ t ∷ []) i u ≡ u → BranchLeads p (libfuncs.FunctionCall f) k t u
    by_place zero lt is = inl (sym is)
    by_place (suc zero) lt is = inr (sym is)
    by_place (suc (suc i)) lt is = absurd (omega arith)
term_leads p libfuncs.WithdrawGas k t u at = leads_if k t u (eqb k 0) refl at
term_leads p _ k t u at = only_one t u at

pub leads_term : (p : Program) (libfunc : Libfunc) (k t u : ℕ) → BranchLeads p libfunc k t u → Contains (listed (branch_targets p libfunc k t)) u
leads_term p (libfuncs.FunctionCall f) k t u (inl is) = (0, omega arith, sym is)
leads_term p (libfuncs.FunctionCall f) k t u (inr is) = (1, omega arith, sym is)
leads_term p libfuncs.WithdrawGas k t u leads = if_leads k t u (eqb k 0) refl leads
leads_term p _ k t u is = (0, omega arith, sym is)
