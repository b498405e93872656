-- Known changes of ap are small.
use Rattle.std.proofs.Common.{◌⊎◌, ℕ, ◌<◌, ◌≤◌, ◌^◌, length}
use Rattle.type_table.specs.View.{TypesView, IsTable}
use Rattle.libfunc_registry.specs.declared.libfunc.Libfunc.{Libfunc}
use Rattle.libfunc_registry.specs.declared.libfunc.Libfunc.TheVariants as libfuncs
use Rattle.libfunc_registry.specs.declared.sig.Sig.{Sig}
use Rattle.libfunc_registry.specs.Fam.{fam_of, gives}
use Rattle.libfunc_registry.specs.Wanted.{IsPlaced}
use Rattle.libfunc_registry.proofs.Placing.{written-placed}
use Rattle.cost_table.specs.Costs.{row_of}
use Rattle.cost_table.specs.Fits.{IsSignature}
use Rattle.cost_table.specs.Terms.{known_change}
use Rattle.cost_table.proofs.FewCells.{size_few}
use Rattle.cost_table.proofs.Charges.{IsSmallMove, moves_few}

small_move : (types : TypesView) → IsTable types → (l : Libfunc) → IsPlaced types l → IsSmallMove (fam_of types l)
small_move types kept (libfuncs.StoreTemp t) placed = size_few types kept t.0 placed
small_move types kept _ placed = tt

pub moves_are_few : (types : TypesView) (sig : Sig) (branch : ℕ) → IsTable types → IsSignature types sig
    → (known_change (row_of (fam_of types sig.libfunc) branch).ap ≤ 2 ^ 14) ⊎ (known_change (row_of (fam_of types sig.libfunc) branch).ap < length (gives (fam_of types sig.libfunc)))
moves_are_few types sig branch kept signature =
    let decl = signature.0 in
    let placed = written-placed types kept decl.generic decl.args sig.libfunc signature.1.written in
    moves_few (fam_of types sig.libfunc) branch (small_move types kept sig.libfunc placed)
