-- The expressions of a variable's cells, however they are kept.
use Rattle.std.specs.Prelude.{List, [], ◌∷◌}
use Rattle.casm_word.specs.declared.cell_expr.CellExpr.{CellExpr}
use Rattle.ap_refs.specs.declared.cells.Kept.{Kept}
use Rattle.ap_refs.specs.declared.cells.Kept.TheVariants.{One, List as Listed}
use Rattle.ap_refs.specs.declared.cells.Read.{Read}
use Rattle.ap_refs.specs.declared.cells.Read.TheVariants as read

abbrev pub items_of : Kept → List CellExpr
items_of (One cell) = cell ∷ []
items_of (Listed list) = list.items

abbrev pub read_of : Read → List CellExpr
read_of (read.One cell) = cell ∷ []
read_of (read.Lent cells) = cells.now
