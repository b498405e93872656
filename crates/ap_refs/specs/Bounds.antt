-- How far offsets, the change of ap and the cells of locals go, by the number of statements that are done.
use Rattle.std.specs.Prelude.{◌≡◌, ℕ, ◌+◌, ◌*◌, ◌^◌, ◌<◌, ◌≤◌, pos, ◌≤ℤ◌, List, Option, Some, None}
use Rattle.std.specs.List.{All, slice_get}
use Rattle.casm_word.specs.Offset.{minus}
use Rattle.casm_word.specs.declared.cell_expr.At.{At}
use Rattle.casm_word.specs.declared.cell_expr.Side.{Side}
use Rattle.casm_word.specs.declared.cell_expr.Side.TheVariants as side
use Rattle.casm_word.specs.declared.cell_expr.CellExpr.{CellExpr}
use Rattle.casm_word.specs.declared.cell_expr.CellExpr.TheVariants as expr
use Rattle.type_table.specs.View.{TypesView, FunctionView, trees_of}
use Rattle.cost_table.specs.Results.{cells_of}
use Rattle.held_list.specs.Held.{Held}
use Rattle.ap_refs.specs.declared.place.Locals.{Locals}
use Rattle.ap_refs.specs.declared.place.Locals.TheVariants.{Before, Allocating, Done}
use Rattle.ap_refs.specs.declared.place.Place.{Place}
use Rattle.ap_refs.specs.Arguments.{Cells, Argument}

-- the most statements of a program
abbrev pub most_statements : ℕ
most_statements = 2 ^ 20

-- the most cells of the parameters or the results of a function: more can't be stored
abbrev pub most_cells : ℕ
most_cells = 2 ^ 62

-- more cells than one statement moves ap by, apart from calls
abbrev pub most_moved : ℕ
most_moved = 2 ^ 40

-- the offset is no further than this on either side
pub record IsWithinAt (reach : ℕ) (at : At) : Type 0 where
  pub least : minus reach ≤ℤ at.off
  pub most : at.off ≤ℤ pos reach

abbrev pub IsWithinSide : ℕ → Side → Type 0
IsWithinSide reach (side.Cell at) = IsWithinAt reach at
IsWithinSide reach (side.Imm n) = Unit {0}

-- each offset from a register is
abbrev pub IsWithin : ℕ → CellExpr → Type 0
IsWithin reach (expr.Cell at) = IsWithinAt reach at
IsWithin reach (expr.DoubleCell at inner) = IsWithinAt reach at
IsWithin reach (expr.Imm n) = Unit {0}
IsWithin reach (expr.Sum at s) = IsWithinAt reach at × IsWithinSide reach s
IsWithin reach (expr.Diff at s) = IsWithinAt reach at × IsWithinSide reach s
IsWithin reach (expr.Product at s) = IsWithinAt reach at × IsWithinSide reach s

abbrev pub AreWithin : ℕ → Held Cells → Type 0
AreWithin reach held = All (λ (x : Argument). All (IsWithin reach) x.1) held

-- with n statements done, no offset is further
abbrev pub reach_of : ℕ → ℕ
reach_of n = 2 ^ 62 + 2 ^ 42 + n * most_moved

-- until locals are reserved, a statement moves ap, or adds to the locals, by fewer than 2 ^ 20 cells
abbrev pub AreFewLocals : ℕ → Option ℕ → Locals → Type 0
AreFewLocals n None Before = Unit {0}
AreFewLocals n (Some ap) Before = ap ≤ n * 1048575
AreFewLocals n ap (Allocating start cells) = start + cells ≤ n * 1048575
AreFewLocals n ap Done = Unit {0}

abbrev pub IsNearBegin : ℕ → Option ℕ → Type 0
IsNearBegin n None = Unit {0}
IsNearBegin n (Some ap) = ap ≤ n * most_moved

-- what is known where n statements are done
pub record IsBounded (n : ℕ) (place : Place) : Type 0 where
  pub cells : AreWithin (reach_of n) place.cells
  pub ap : IsNearBegin n place.ap
  pub locals : AreFewLocals n place.ap place.locals

-- no function has more cells of parameters or of results than can be stored
pub record AreFewCells (t : TypesView) (f : FunctionView) : Type 0 where
  pub params : cells_of (trees_of t f.params) < most_cells
  pub results : cells_of (trees_of t f.results) < most_cells

abbrev pub HasFewCells : TypesView → Type 0
HasFewCells t = (i : ℕ) (f : FunctionView) → slice_get t.functions i ≡ Some f → AreFewCells t f
