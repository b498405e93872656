-- Each statement's terms lead to statements.
use Rattle.std.proofs.Common.{◌≡◌, ◌⊎◌, inl, inr, Bool, true, false, eqb, if◌then◌else◌, ℕ, suc, ◌+◌, ◌<◌, ◌≤◌, List, [], ◌∷◌, length, get_or, Option, Some, None, refl, ap, subst, ◌∙◌, arith}
use Rattle.std.specs.List.{slice_get, Contains}
use Rattle.std.specs.Option.{option_map_or}
use Rattle.std.proofs.lemmas.List.{get_or_past}
use Rattle.std.proofs.lemmas.Bool.{cases_lt}
use Rattle.sierra_types.specs.declared.program.Program.{Program}
use Rattle.sierra_types.specs.declared.program.Statement.{Statement}
use Rattle.sierra_types.specs.declared.program.Statement.TheVariants.{Invoke, Return}
use Rattle.sierra_types.specs.declared.program.Branch.{Branch}
use Rattle.type_table.specs.Table.{HasTypes}
use Rattle.type_table.specs.View.{TypesView}
use Rattle.libfunc_registry.specs.declared.sig.Sig.{Sig}
use Rattle.libfunc_registry.specs.declared.libfunc.Libfunc.{Libfunc}
use Rattle.libfunc_registry.specs.declared.libfunc.Libfunc.TheVariants as libfuncs
use Rattle.libfunc_registry.specs.Signature.{HasSignatures}
use Rattle.statement_walk.proofs.Arrivals.{inside}
use Rattle.linear_check.specs.Statements.{declared, target_of}
use Rattle.linear_check.specs.Typed.{TypedList, Typed}
use Rattle.graph_cycles.specs.Graph.{IsClosed}
use Rattle.least_needs.specs.declared.terms.Targets.TheVariants.{Nowhere, One}
use Rattle.least_needs.specs.Terms.{AreBelow, listed, all_targets, graph_of}
use Rattle.least_needs.proofs.Bounds.{below_contained, below_both}
use Rattle.least_needs.proofs.ClosedTerms.{targets_in, length-graph}
use Rattle.gas_solver.specs.Known.{IsCallable, HasSignature, IsKnown}
use Rattle.gas_solver.specs.Terms.{branch_targets, branch_terms, statement_terms, program_terms}
use Rattle.gas_solver.proofs.Knowing.{known}
use Rattle.gas_solver.proofs.Listing.{length-program_terms, terms_at}

targets_below : (p : Program) (libfunc : Libfunc) (k t : ℕ) → IsCallable p libfunc → t < length p.statements → AreBelow (length p.statements) (listed (branch_targets p libfunc k t))
targets_below p (libfuncs.FunctionCall f) k t callable lt = (callable.1, (lt, tt))
targets_below p libfuncs.WithdrawGas k t callable lt = by_first (eqb k 0)
  where
    by_first : (first : Bool) → AreBelow (length p.statements) (listed (if first then Nowhere else One t))
    by_first true = tt
    by_first false = (lt, tt)
targets_below p _ k t callable lt = (lt, tt)

branches_below : (p : Program) (t : TypesView) (sig : Sig) (s k : ℕ) (branches : List Branch) → IsCallable p sig.libfunc → ((i : ℕ) (b : Branch) → slice_get branches i ≡ Some b → target_of s b.target < length p.statements)
    → AreBelow (length p.statements) (all_targets (branch_terms p t sig s k branches))
branches_below p t sig s k [] callable inside = tt
branches_below p t sig s k (b ∷ branches) callable inside =
    below_both (length p.statements) (listed (branch_targets p sig.libfunc k (target_of s b.target))) (all_targets (branch_terms p t sig s (k + 1) branches))
    (targets_below p sig.libfunc k (target_of s b.target) callable (inside 0 b refl)) (branches_below p t sig s (k + 1) branches callable (λ i c is. inside (suc i) c is))

statement_below : (p : Program) (t : TypesView) (sigs : List Sig) (s : ℕ) (statement : Statement) → IsKnown p t sigs s statement → AreBelow (length p.statements) (all_targets (statement_terms p t sigs s statement))
statement_below p t sigs s (Return args) known = tt
statement_below p t sigs s (Invoke id args branches) known = by_sig (declared p sigs id) known
  where
    by_sig : (o : Option Sig) → ((sig : Sig) → o ≡ Some sig → HasSignature p t s sig branches) → AreBelow (length p.statements) (all_targets (option_map_or (λ sig. branch_terms p t sig s 0 branches) o []))
    by_sig None known = tt
    by_sig (Some sig) known = let has = known sig refl in branches_below p t sig s 0 branches has.callable has.inside

pub closed : (p : Program) (t : TypesView) (sigs : List Sig) (a : TypedList) → HasTypes p t → HasSignatures t p.libfuncs sigs → Typed p t sigs a → IsClosed (graph_of (program_terms p t sigs))
closed p t sigs a has signatures typed = record { targets = λ s u leads. by_place s u (cases_lt s (length p.statements)) leads }
  where
    size : length (graph_of (program_terms p t sigs)) ≡ length p.statements
    size = length-graph (program_terms p t sigs) ∙ length-program_terms p t sigs

    by_place : (s u : ℕ) → (s < length p.statements) ⊎ (length p.statements ≤ s) → Contains (get_or (graph_of (program_terms p t sigs)) s []) u → u < length (graph_of (program_terms p t sigs))
    by_place s u (inl lt) leads =
        let statement = inside p.statements s lt in
        let below = statement_below p t sigs s statement.0 (known p t sigs a has signatures typed s statement.0 statement.1) in
        let same = targets_in (program_terms p t sigs) s ∙ ap all_targets (terms_at p t sigs s statement.0 statement.1) in
        let small = below_contained (length p.statements) (all_targets (statement_terms p t sigs s statement.0)) u below (subst (λ ts. Contains ts u) same leads) in
        omega (arith, size)
    by_place s u (inr past) leads =
        let empty : Contains {X = ℕ} [] u = subst (λ ts. Contains ts u) (get_or_past (graph_of (program_terms p t sigs)) s [] (omega (arith, size))) leads in
        absurd (omega (arith, empty.1))
