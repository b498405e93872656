-- What is known of the family and of the expressions that a lowering is handed.
use Rattle.std.specs.Prelude.{ℕ, ◌<◌, ◌≤◌, ◌^◌, List, length}
use Rattle.std.specs.List.{All}
use Rattle.type_trees.specs.Ty.{Ty, size}
use Rattle.type_table.specs.Trees.{IsAllowed}
use Rattle.casm_word.specs.Offset.{IsNear}
use Rattle.casm_word.specs.declared.cell_expr.CellExpr.{CellExpr}
use Rattle.casm_word.specs.declared.cell_expr.CellExpr.TheVariants as expr
use Rattle.libfunc_registry.specs.Control as controls
use Rattle.libfunc_registry.specs.Data.{into_box}
use Rattle.libfunc_registry.specs.Fam.{Fam, control, data_, takes, gives}
use Rattle.libfunc_meaning.specs.Proper.{IsProper}
use Rattle.cost_table.specs.Fits.{Fit}
use Rattle.lower_kit.specs.Worded.{IsWorded}

-- the inner offset of a double cell has 16 bits
abbrev pub IsInnerNear : CellExpr → Type 0
IsInnerNear (expr.Cell at) = Unit {0}
IsInnerNear (expr.DoubleCell at inner) = IsNear inner
IsInnerNear (expr.Imm n) = Unit {0}
IsInnerNear (expr.Sum at s) = Unit {0}
IsInnerNear (expr.Diff at s) = Unit {0}
IsInnerNear (expr.Product at s) = Unit {0}

-- a declared type has at most so many cells
abbrev pub IsSmallType : Ty → Type 0
IsSmallType ty = size ty ≤ 2 ^ 14

-- each cell of what is stored, in a new cell, a local or a box, has a word
abbrev pub IsStored : Fam → Type 0
IsStored (control (controls.store_temp ty)) = IsWorded ty
IsStored (control (controls.store_local ty)) = IsWorded ty
IsStored (data_ (into_box ty)) = IsWorded ty
IsStored _ = Unit {0}

-- What holds of the family of each declared libfunc: its arguments besides types are as they may be written, and of the
-- types that it takes and gives holds what a table of types keeps. A declaration has at most 2 ^ 24 arguments, so a libfunc
-- no more branches.
pub record IsAsDeclared (fam : Fam) : Type 0 where
  pub proper : IsProper fam
  pub small : All IsSmallType (takes fam)
  pub small_results : All (All IsSmallType) (gives fam)
  pub few_branches : length (gives fam) ≤ 2 ^ 24
  pub allowed_results : All (All IsAllowed) (gives fam)
  pub stored : IsStored fam

-- The expressions fit the family, which is as a declared one is, and the amount of a statement is below 2 ^ 40.
pub record Takes (fam : Fam) (args : List CellExpr) (amount : ℕ) : Type 0 where
  pub declared : IsAsDeclared fam
  pub fit : Fit fam args
  pub inner : All IsInnerNear args
  pub few : amount < 2 ^ 40
