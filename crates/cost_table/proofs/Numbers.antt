-- Results of a declared libfunc are numbers of the field.
use Rattle.std.proofs.Common.{◌≡◌, ℕ, ◌<◌, ◌≤◌, ◌^◌, List, length, sym, ap, ◌∙◌, arith}
use Rattle.std.specs.List.{All}
use Rattle.std.proofs.lemmas.List.{length-map}
use Rattle.type_table.specs.Trees.{parts}
use Rattle.type_table.specs.View.{TypesView, IsTable, tree_of}
use Rattle.type_table.proofs.DecidedLists.{at_below}
use Rattle.libfunc_registry.specs.declared.libfunc.Libfunc.{Libfunc}
use Rattle.libfunc_registry.specs.declared.libfunc.Libfunc.TheVariants as libfuncs
use Rattle.libfunc_registry.specs.declared.sig.Sig.{Sig}
use Rattle.libfunc_registry.specs.Fam.{fam_of}
use Rattle.libfunc_registry.specs.Wanted.{IsPlaced}
use Rattle.libfunc_registry.proofs.Placing.{written-placed}
use Rattle.casm_word.specs.declared.cell_expr.CellExpr.{CellExpr}
use Rattle.casm_word.specs.Expressions.{IsExprInField}
use Rattle.cost_table.specs.Fits.{IsSignature}
use Rattle.cost_table.specs.Results.{results}
use Rattle.cost_table.proofs.Counts.{IsShapely}
use Rattle.cost_table.proofs.FewCells.{size_few}
use Rattle.cost_table.proofs.InField.{HasSmallNumbers, results_in_field}
use Rattle.cost_table.proofs.Shapes.{written_shape}

few_parts : (types : TypesView) → IsTable types → (i : ℕ) → i < length types.rows → length (parts (tree_of types i)) ≤ 2 ^ 24
few_parts types kept i below =
    let row = at_below types.rows i below in
    let right = kept.rows_right i row.0 row.1 in
    let same : length row.0.members ≡ length (parts (tree_of types i)) = sym (length-map row.0.members (λ t. tree_of types t.0)) ∙ ap length right.members in
    let few : length row.0.members ≤ 2 ^ 24 = right.few_members in
    omega arith

numbers_small : (types : TypesView) → IsTable types → (l : Libfunc) → IsPlaced types l → IsShapely (fam_of types l) → HasSmallNumbers (fam_of types l)
numbers_small types kept (libfuncs.Const num n) placed shape = shape
numbers_small types kept (libfuncs.EnumInit t index) placed shape = let few = few_parts types kept t.0 placed.0 in let within = placed.1 in omega arith
numbers_small types kept (libfuncs.ArrayAppend t) placed shape = let few = size_few types kept t.0 placed in omega arith
numbers_small types kept (libfuncs.ArrayPopFront t) placed shape = let few = size_few types kept t.0 placed in omega arith
numbers_small types kept _ placed shape = tt

pub results_are_in_field : (types : TypesView) (sig : Sig) (args : List CellExpr) (amount branch : ℕ) → IsTable types → IsSignature types sig
    → All IsExprInField args → All IsExprInField (results args amount (fam_of types sig.libfunc) branch)
results_are_in_field types sig args amount branch kept signature all =
    let decl = signature.0 in
    let placed = written-placed types kept decl.generic decl.args sig.libfunc signature.1.written in
    let shape = written_shape types decl.generic decl.args sig.libfunc signature.1.written in
    results_in_field args amount all (fam_of types sig.libfunc) branch (numbers_small types kept sig.libfunc placed shape)
