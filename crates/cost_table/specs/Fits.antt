-- When expressions fit a signature: they are those of its arguments' cells, in the marked forms, with near offsets.
use Rattle.std.specs.Prelude.{◌≡◌, ◌^◌, ◌-◌, pos, ◌≤ℤ◌, List, length, take, IsTrue}
use Rattle.std.specs.List.{All, list_all}
use Rattle.type_trees.specs.Ty.{size}
use Rattle.sierra_types.specs.declared.program.LibfuncDecl.{LibfuncDecl}
use Rattle.type_table.specs.View.{TypesView}
use Rattle.libfunc_registry.specs.declared.sig.Sig.{Sig}
use Rattle.libfunc_registry.specs.Signature.{HasSignature}
use Rattle.libfunc_registry.specs.Control as controls
use Rattle.libfunc_registry.specs.Fam.{Fam, control, gas, felts, integers, data_, arrays, dictionaries, takes}
use Rattle.casm_word.specs.Offset.{minus}
use Rattle.casm_word.specs.declared.cell_expr.At.{At}
use Rattle.casm_word.specs.declared.cell_expr.Side.{Side}
use Rattle.casm_word.specs.declared.cell_expr.Side.TheVariants as side
use Rattle.casm_word.specs.declared.cell_expr.CellExpr.{CellExpr}
use Rattle.casm_word.specs.declared.cell_expr.CellExpr.TheVariants as expr
use Rattle.casm_word.specs.Expressions.{IsExprInField}
use Rattle.cost_table.specs.declared.mark.Mark.{Mark}
use Rattle.cost_table.specs.Marks.{MeetMarks, is_cell}
use Rattle.cost_table.specs.Control.{control_marks}
use Rattle.cost_table.specs.Gas.{gas_marks}
use Rattle.cost_table.specs.Felts.{felts_marks}
use Rattle.cost_table.specs.Integers.{integers_marks}
use Rattle.cost_table.specs.Data.{data_marks}
use Rattle.cost_table.specs.Arrays.{arrays_marks}
use Rattle.cost_table.specs.Dictionaries.{dictionaries_marks}
use Rattle.cost_table.specs.Results.{cells_of}

-- it is the signature of some declaration
abbrev pub IsSignature : TypesView → Sig → Type 0
IsSignature types sig = (decl : LibfuncDecl) × HasSignature types decl sig

-- the offset of a cell that a statement may take: from -2 ^ 14 to 2 ^ 14 - 1
pub record IsClose (at : At) : Type 0 where
  pub least : minus (2 ^ 14) ≤ℤ at.off
  pub most : at.off ≤ℤ pos (2 ^ 14 - 1)

abbrev pub IsCloseSide : Side → Type 0
IsCloseSide (side.Cell at) = IsClose at
IsCloseSide (side.Imm n) = Unit {0}

-- each offset from a register is one; an inner offset doesn't count
abbrev pub IsCloseExpr : CellExpr → Type 0
IsCloseExpr (expr.Cell at) = IsClose at
IsCloseExpr (expr.DoubleCell at inner) = IsClose at
IsCloseExpr (expr.Imm n) = Unit {0}
IsCloseExpr (expr.Sum at s) = IsClose at × IsCloseSide s
IsCloseExpr (expr.Diff at s) = IsClose at × IsCloseSide s
IsCloseExpr (expr.Product at s) = IsClose at × IsCloseSide s

-- what is asked of the expressions of the arguments
abbrev pub marks_of : Fam → List Mark
marks_of (control fam) = control_marks fam
marks_of (gas fam) = gas_marks fam
marks_of (felts fam) = felts_marks fam
marks_of (integers fam) = integers_marks fam
marks_of (data_ fam) = data_marks fam
marks_of (arrays fam) = arrays_marks fam
marks_of (dictionaries fam) = dictionaries_marks fam

-- The cells of a local are cells. No statement is asked so: a local begins in cells, and nothing but `rename` hands it on.
abbrev pub IsLocalInCells : Fam → List CellExpr → Type 0
IsLocalInCells (control (controls.store_local ty)) args = IsTrue (list_all is_cell (take (size ty) args))
IsLocalInCells _ args = Unit {0}

-- the expressions are those of the arguments' cells, in order, and of the forms that the family asks
pub record Fit (fam : Fam) (args : List CellExpr) : Type 0 where
  pub many : length args ≡ cells_of (takes fam)
  pub marked : MeetMarks (marks_of fam) (takes fam) args
  pub local : IsLocalInCells fam args
  pub close : All IsCloseExpr args
  pub in_field : All IsExprInField args
