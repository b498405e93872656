-- The expressions of results as the code makes them.
use Rattle.std.proofs.Common.{◌≡◌, ℕ, List, [], ◌++◌, map, ap, ◌∙◌}
use Rattle.libfunc_registry.specs.Fam.{Fam}
use Rattle.casm_word.specs.declared.cell_expr.CellExpr.{CellExpr}
use Rattle.cell_terms.specs.declared.term.Term.{Term}
use Rattle.cell_terms.specs.Resolving.{resolve}
use Rattle.cost_table.specs.declared.row.Row.{Row}
use Rattle.cost_table.specs.Costs.{row_of}
use Rattle.cost_table.specs.Results.{branch_types, cells_of, moved, results, terms_of}

pub made : (args : List CellExpr) (amount : ℕ) (fam : Fam) (branch : ℕ) (r : Row) (ts : List Term) (count by : ℕ) (empty cells : List CellExpr)
    → r ≡ row_of fam branch → count ≡ cells_of (branch_types fam branch) → ts ≡ terms_of args amount r count fam branch → by ≡ moved r.ap count
    → empty ≡ [] → cells ≡ empty ++ map (resolve by args) ts → cells ≡ results args amount fam branch
made args amount fam branch r ts count by empty cells row_is count_is ts_are by_is none pushed =
    pushed
    ∙ ap (λ xs. xs ++ map (resolve by args) ts) none
    ∙ ap (λ d. map (resolve d args) ts) by_is
    ∙ ap (λ us. map (resolve (moved r.ap count) args) us) ts_are
    ∙ ap (λ (q : Row). map (resolve (moved q.ap count) args) (terms_of args amount q count fam branch)) row_is
    ∙ ap (λ n. map (resolve (moved (row_of fam branch).ap n) args) (terms_of args amount (row_of fam branch) n fam branch)) count_is
