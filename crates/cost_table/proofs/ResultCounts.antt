-- A branch's results have as many expressions as their types have cells.
use Rattle.std.proofs.Common.{◌≡◌, ℕ, ◌<◌, List, length, ◌∙◌}
use Rattle.std.proofs.lemmas.List.{length-map}
use Rattle.type_table.specs.View.{TypesView}
use Rattle.libfunc_registry.specs.declared.sig.Sig.{Sig}
use Rattle.libfunc_registry.specs.Fam.{fam_of}
use Rattle.casm_word.specs.declared.cell_expr.CellExpr.{CellExpr}
use Rattle.cell_terms.specs.Resolving.{resolve}
use Rattle.cost_table.specs.Fits.{IsSignature}
use Rattle.cost_table.specs.Results.{branch_types, cells_of, moved_by, result_terms, results}
use Rattle.cost_table.proofs.Counts.{terms_many}
use Rattle.cost_table.proofs.Shapes.{written_shape}
use Rattle.cost_table.proofs.Signatures.{branch_within}

pub results_many : (types : TypesView) (sig : Sig) (args : List CellExpr) (amount branch : ℕ) → IsSignature types sig → branch < length sig.branches
    → length (results args amount (fam_of types sig.libfunc) branch) ≡ cells_of (branch_types (fam_of types sig.libfunc) branch)
results_many types sig args amount branch signature within =
    let fam = fam_of types sig.libfunc in
    let decl = signature.0 in
    let shape = written_shape types decl.generic decl.args sig.libfunc signature.1.written in
    length-map (result_terms args amount fam branch) (resolve (moved_by fam branch) args)
    ∙ terms_many args amount fam branch shape (branch_within types sig branch signature within)
