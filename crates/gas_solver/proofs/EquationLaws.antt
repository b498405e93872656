-- The equations of a program are those of its terms.
use Rattle.std.proofs.Common.{◌≡◌, ◌↔◌, Bool, true, false, eqb, if◌then◌else◌, ℕ, ◌+◌, max, List, [], ◌∷◌, get_or, Option, Some, None, refl, sym, ap, ◌∙◌, arith}
use Rattle.std.specs.List.{slice_get}
use Rattle.std.specs.Option.{option_map_or}
use Rattle.std.proofs.lemmas.Option.{slice_get_within}
use Rattle.sierra_types.specs.declared.program.Program.{Program}
use Rattle.sierra_types.specs.declared.program.Statement.{Statement}
use Rattle.sierra_types.specs.declared.program.Statement.TheVariants.{Invoke, Return}
use Rattle.sierra_types.specs.declared.program.Branch.{Branch}
use Rattle.type_table.specs.View.{TypesView}
use Rattle.libfunc_registry.specs.declared.sig.Sig.{Sig}
use Rattle.libfunc_registry.specs.declared.libfunc.Libfunc.{Libfunc}
use Rattle.libfunc_registry.specs.declared.libfunc.Libfunc.TheVariants as libfuncs
use Rattle.libfunc_registry.specs.Fam.{fam_of}
use Rattle.cost_table.specs.Costs.{charge}
use Rattle.statement_walk.proofs.Arrivals.{inside}
use Rattle.linear_check.specs.Statements.{declared, target_of}
use Rattle.least_needs.specs.declared.terms.Targets.TheVariants.{Nowhere, One}
use Rattle.least_needs.specs.Needs.{largest, sum_of, Meets}
use Rattle.least_needs.specs.Terms.{listed}
use Rattle.gas_solver.specs.Equations.{branch_need, greatest, statement_need, MeetEquations}
use Rattle.gas_solver.specs.Terms.{branch_targets, branch_terms, statement_terms, program_terms}
use Rattle.gas_solver.proofs.Listing.{length-program_terms, terms_at}

need_if : (need : ℕ → ℕ) (charged t : ℕ) (first : Bool) → charged + sum_of need (listed (if first then Nowhere else One t)) ≡ (if first then charged else (charged + need t))
need_if need charged t true = omega arith
need_if need charged t false = omega arith

branch_same : (p : Program) (need : ℕ → ℕ) (libfunc : Libfunc) (charged k t : ℕ) → charged + sum_of need (listed (branch_targets p libfunc k t)) ≡ branch_need p need libfunc charged k t
branch_same p need (libfuncs.FunctionCall f) charged k t = omega arith
branch_same p need libfuncs.WithdrawGas charged k t = need_if need charged t (eqb k 0)
branch_same p need _ charged k t = omega arith

greatest_same : (p : Program) (t : TypesView) (need : ℕ → ℕ) (sig : Sig) (s k : ℕ) (branches : List Branch) → largest need (branch_terms p t sig s k branches) ≡ greatest p t need sig s k branches
greatest_same p t need sig s k [] = refl
greatest_same p t need sig s k (b ∷ bs) =
    ap (λ n. max n (largest need (branch_terms p t sig s (k + 1) bs))) (branch_same p need sig.libfunc (charge (fam_of t sig.libfunc) k) k (target_of s b.target))
    ∙ ap (λ n. max (branch_need p need sig.libfunc (charge (fam_of t sig.libfunc) k) k (target_of s b.target)) n) (greatest_same p t need sig s (k + 1) bs)

statement_same : (p : Program) (t : TypesView) (sigs : List Sig) (need : ℕ → ℕ) (s : ℕ) (statement : Statement) → largest need (statement_terms p t sigs s statement) ≡ statement_need p t sigs need s statement
statement_same p t sigs need s (Return args) = omega arith
statement_same p t sigs need s (Invoke id args branches) = by_sig (declared p sigs id)
  where
    by_sig : (o : Option Sig) → largest need (option_map_or (λ sig. branch_terms p t sig s 0 branches) o []) ≡ option_map_or (λ sig. greatest p t need sig s 0 branches) o 0
    by_sig None = refl
    by_sig (Some sig) = greatest_same p t need sig s 0 branches

pub equations : (p : Program) (t : TypesView) (sigs : List Sig) (need : ℕ → ℕ) → Meets (program_terms p t sigs) need ↔ MeetEquations p t sigs need
equations p t sigs need = (there, back)
  where
    row : (s : ℕ) (statement : Statement) → slice_get p.statements s ≡ Some statement → largest need (get_or (program_terms p t sigs) s []) ≡ statement_need p t sigs need s statement
    row s statement here = ap (largest need) (terms_at p t sigs s statement here) ∙ statement_same p t sigs need s statement

    there : Meets (program_terms p t sigs) need → MeetEquations p t sigs need
    there meets s statement here =
        let lt = slice_get_within p.statements s statement here in
        meets s (omega (arith, length-program_terms p t sigs)) ∙ row s statement here

    back : MeetEquations p t sigs need → Meets (program_terms p t sigs) need
    back meet s lt =
        let statement = inside p.statements s (omega (arith, length-program_terms p t sigs)) in
        meet s statement.0 statement.1 ∙ sym (row s statement.0 statement.1)
