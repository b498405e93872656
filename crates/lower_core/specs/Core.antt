-- The plans of all libfuncs of this crate: control and places, felts and constants, enums, structs, snapshots and boxes.
use Rattle.std.specs.Prelude.{ℕ, List}
use Rattle.casm_word.specs.declared.cell_expr.CellExpr.{CellExpr}
use Rattle.frag_code.specs.declared.piece.Piece.{Piece}
use Rattle.frag_plan.specs.Plan.{Plan, exit, fragment}
use Rattle.libfunc_registry.specs.Fam.{Fam, control, felts, data_}
use Rattle.lower_core.specs.Control.{control_plan}
use Rattle.lower_core.specs.Felts.{felts_plan}
use Rattle.lower_core.specs.Data.{data_plan}

-- the libfunc is lowered here
abbrev pub IsCore : Fam → Type 0
IsCore (control fam) = Unit {0}
IsCore (felts fam) = Unit {0}
IsCore (data_ fam) = Unit {0}
IsCore _ = ⊥

abbrev pub core_plan : (amount : ℕ) → Fam → Plan
core_plan amount (control fam) = control_plan amount fam
core_plan amount (felts fam) = felts_plan fam
core_plan amount (data_ fam) = data_plan fam
core_plan amount _ = exit 0

-- the fragment of a libfunc over the expressions of its arguments
abbrev pub core_fragment : (args : List CellExpr) (amount : ℕ) → Fam → List Piece
core_fragment args amount fam = fragment args (core_plan amount fam)
