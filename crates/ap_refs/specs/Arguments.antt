-- The cells of a statement's arguments, and what is asked of them.
use Rattle.std.specs.Prelude.{ℕ, ◌-◌, ◌+◌, ◌^◌, pos, ◌-ℤ◌, int_le, ◌==◌, Bool, true, false, ◌&&◌, List, [], ◌∷◌, ◌++◌, length, map, Option, Some, None, if◌then◌else◌}
use Rattle.std.specs.Ordering.{int_eq}
use Rattle.std.specs.Option.{unwrap_or}
use Rattle.std.specs.List.{list_all, range_with_len}
use Rattle.casm_word.specs.Offset.{minus}
use Rattle.casm_word.specs.declared.instr.Reg.{Reg}
use Rattle.casm_word.specs.declared.instr.Reg.TheVariants as reg
use Rattle.casm_word.specs.declared.cell_expr.At.{At}
use Rattle.casm_word.specs.declared.cell_expr.Side.{Side}
use Rattle.casm_word.specs.declared.cell_expr.Side.TheVariants as side
use Rattle.casm_word.specs.declared.cell_expr.CellExpr.{CellExpr}
use Rattle.casm_word.specs.declared.cell_expr.CellExpr.TheVariants as expr
use Rattle.cost_table.specs.declared.mark.Mark.{Mark}
use Rattle.cost_table.specs.Marks.{meets_mark}
use Rattle.held_list.specs.Held.{Held}
use Rattle.held_list.specs.Editing.{take}

-- the expressions of a variable's cells, in order
abbrev pub Cells : Type 0
Cells = List CellExpr

-- a variable with the expressions of its cells
abbrev pub Argument : Type 0
Argument = ℕ × Cells

-- A variable's cells, and what is held without it. Where it isn't held it has no cells; in a typed program each argument is
-- held.
abbrev pub taken_out : ℕ → Held Cells → Cells × Held Cells
taken_out v held = unwrap_or (take v held) ([], held)

-- what is held without a variable, pair by pair
abbrev pub without : ℕ → Held Cells → Held Cells
without v [] = []
without v (x ∷ xs) = if v == x.0 then without v xs else x ∷ without v xs

-- the arguments with their cells, taken one after another, and what is held without them
abbrev pub taken : List ℕ → Held Cells → List Argument × Held Cells
taken [] held = ([], held)
taken (v ∷ vs) held = ((v, (taken_out v held).0) ∷ (taken vs (taken_out v held).1).0, (taken vs (taken_out v held).1).1)

-- the cells of all arguments, in order
abbrev pub joined : List Argument → Cells
joined [] = []
joined (x ∷ xs) = x.1 ++ joined xs

-- the offset lies from -2 ^ 14 to 2 ^ 14 - 1
abbrev pub is_close_at : At → Bool
is_close_at at = int_le (minus (2 ^ 14)) at.off && int_le at.off (pos (2 ^ 14 - 1))

abbrev pub is_close_side : Side → Bool
is_close_side (side.Cell at) = is_close_at at
is_close_side (side.Imm n) = true

-- each offset from a register does; an inner offset doesn't count
abbrev pub is_close : CellExpr → Bool
is_close (expr.Cell at) = is_close_at at
is_close (expr.DoubleCell at inner) = is_close_at at
is_close (expr.Imm n) = true
is_close (expr.Sum at s) = is_close_at at && is_close_side s
is_close (expr.Diff at s) = is_close_at at && is_close_side s
is_close (expr.Product at s) = is_close_at at && is_close_side s

-- the first argument with a cell that is too far
abbrev pub first_far : List Argument → Option ℕ
first_far [] = None
first_far (x ∷ xs) = if list_all is_close x.1 then first_far xs else Some x.0

abbrev pub is_ap : Reg → Bool
is_ap reg.Ap = true
is_ap reg.Fp = false

-- the expression is the cell so many cells below ap
abbrev pub is_below : ℕ → CellExpr → Bool
is_below down (expr.Cell at) = is_ap at.base && int_eq at.off (pos 0 -ℤ pos down)
is_below down _ = false

-- the expressions are the cells from so many below ap on
abbrev pub are_below : ℕ → Cells → Bool
are_below down [] = true
are_below down (c ∷ cs) = is_below down c && are_below (down - 1) cs

-- the first argument with a cell that isn't in its place, where all cells are to stand from so many below ap on
abbrev pub first_off_top : ℕ → List Argument → Option ℕ
first_off_top down [] = None
first_off_top down (x ∷ xs) = if are_below down x.1 then first_off_top (down - length x.1) xs else Some x.0

-- the first argument whose cells aren't of its marked form; where no mark is told, any form is
abbrev pub first_unmarked : List Mark → List Argument → Option ℕ
first_unmarked [] args = None
first_unmarked (mark ∷ marks) [] = None
first_unmarked (mark ∷ marks) (x ∷ xs) = if meets_mark mark x.1 then first_unmarked marks xs else Some x.0

abbrev pub side_at_ap : Side → Bool
side_at_ap (side.Cell at) = is_ap at.base
side_at_ap (side.Imm n) = false

-- whether a part of the expression is a cell from ap
abbrev pub is_from_ap : CellExpr → Bool
is_from_ap (expr.Cell at) = is_ap at.base
is_from_ap (expr.DoubleCell at inner) = is_ap at.base
is_from_ap (expr.Imm n) = false
is_from_ap (expr.Sum at s) = if is_ap at.base then true else side_at_ap s
is_from_ap (expr.Diff at s) = if is_ap at.base then true else side_at_ap s
is_from_ap (expr.Product at s) = if is_ap at.base then true else side_at_ap s

abbrev pub are_free_of_ap : Cells → Bool
are_free_of_ap [] = true
are_free_of_ap (c ∷ cs) = if is_from_ap c then false else are_free_of_ap cs

-- the least variable that is held with a cell from ap
abbrev pub first_from_ap : Held Cells → Option ℕ
first_from_ap [] = None
first_from_ap (x ∷ xs) = if are_free_of_ap x.1 then first_from_ap xs else Some x.0
