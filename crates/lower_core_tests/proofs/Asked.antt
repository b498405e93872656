-- What `emit` asks of the fragments that the tests run.
use Rattle.std.proofs.Common.{◌≡◌, ℕ, ◌+◌, ◌*◌, ◌≤◌, ◌^◌, Bool, true, false, List, [], ◌∷◌, length, IsTrue, refl, arith}
use Rattle.std.specs.List.{All}
use Rattle.std.proofs.lemmas.List.Elements.{All-contains}
use Rattle.casm_word.specs.declared.cell_expr.CellExpr.{CellExpr}
use Rattle.type_trees.specs.Ty.{size}
use Rattle.type_table.specs.Trees.{parts}
use Rattle.cell_terms.specs.declared.term.Slot.TheVariants as slots
use Rattle.cell_terms.specs.declared.term.Term.TheVariants as terms
use Rattle.frag_code.specs.declared.piece.Piece.{Piece}
use Rattle.frag_code.specs.declared.piece.Piece.TheVariants as piece
use Rattle.casm_word.specs.declared.cell_expr.CellExpr.TheVariants as expr
use Rattle.casm_word.specs.declared.cell_expr.Side.TheVariants as side
use Rattle.frag_code.specs.Emit.{cells_of, code_cells, cells_of_code}
use Rattle.frag_code.specs.Form.{has_jump, shape}
use Rattle.frag_code.specs.Meaning.{AreEntries}
use Rattle.frag_code.proofs.Places.{code_cells-cons}
use Rattle.frag_plan.specs.Plan.{exit, asks_met}
use Rattle.frag_plan.proofs.Shapes.{shaped}
use Rattle.libfunc_registry.specs.Control.{ControlFam, branch_align, jump, rename, dup, drop, store_temp, store_local, alloc_local, finalize_locals, disable_ap_tracking, enable_ap_tracking}
use Rattle.libfunc_registry.specs.Data.{DataFam, enum_init, enum_match, enum_snapshot_match, struct_construct, struct_deconstruct, struct_snapshot_deconstruct, snapshot_take, into_box, unbox}
use Rattle.libfunc_registry.specs.Felts.{FeltsFam, const, felt64_add, felt64_sub, felt64_mul, is_zero, unwrap_non_zero}
use Rattle.libfunc_registry.specs.Fam.{Fam, control, gas, felts, integers, data_, arrays, dictionaries}
use Rattle.cost_table.specs.Terms.{kept, run}
use Rattle.lower_kit.proofs.Ways.{lays_met, sames_met}
use Rattle.lower_core.specs.Control.{control_plan}
use Rattle.lower_core.specs.Core.{core_plan, core_fragment}
use Rattle.lower_core.specs.Data.{data_plan}
use Rattle.lower_core.specs.Felts.{felts_plan}
use Rattle.lower_core.proofs.Matches.{match_met}
use Rattle.lower_core_tests.specs.Led.{IsLed}

control_met : (amount : ℕ) (fam : ControlFam) → asks_met (control_plan amount fam) ≡ true
control_met amount branch_align = refl
control_met amount jump = refl
control_met amount (rename ty) = refl
control_met amount (dup ty) = refl
control_met amount (drop ty) = refl
control_met amount (store_temp ty) = lays_met (kept 0 (size ty)) (exit 0) refl
control_met amount (store_local ty) = sames_met 0 (kept (size ty) (size ty)) (exit 0) refl
control_met amount (alloc_local ty) = refl
control_met amount finalize_locals = refl
control_met amount disable_ap_tracking = refl
control_met amount enable_ap_tracking = refl

felts_met : (fam : FeltsFam) → asks_met (felts_plan fam) ≡ true
felts_met (const num n) = refl
felts_met felt64_add = refl
felts_met felt64_sub = refl
felts_met felt64_mul = refl
felts_met (is_zero num) = refl
felts_met (unwrap_non_zero num) = refl

data_met : (fam : DataFam) → asks_met (data_plan fam) ≡ true
data_met (enum_init ty index) = refl
data_met (enum_match ty) = match_met (length (parts ty))
data_met (enum_snapshot_match ty) = match_met (length (parts ty))
data_met (struct_construct ty) = refl
data_met (struct_deconstruct ty) = refl
data_met (struct_snapshot_deconstruct ty) = refl
data_met (snapshot_take ty) = refl
data_met (into_box ty) = sames_met 0 (run (terms.Behind (slots.Own 0) 0) (size ty)) (exit 0) refl
data_met (unbox ty) = refl

core_met : (amount : ℕ) (fam : Fam) → asks_met (core_plan amount fam) ≡ true
core_met amount (control fam) = control_met amount fam
core_met amount (gas fam) = refl
core_met amount (felts fam) = felts_met fam
core_met amount (integers fam) = refl
core_met amount (data_ fam) = data_met fam
core_met amount (arrays fam) = refl
core_met amount (dictionaries fam) = refl

pub core_shaped : (args : List CellExpr) (amount : ℕ) (fam : Fam) → IsTrue (shape (has_jump (core_fragment args amount fam)) 0 (core_fragment args amount fam))
core_shaped args amount fam = shaped args (core_plan amount fam) (core_met amount fam)

piece_short : (jumps : Bool) (p : Piece) → cells_of jumps p ≤ 2
piece_short jumps (piece.Let (expr.Cell at)) = omega arith
piece_short jumps (piece.Let (expr.DoubleCell at inner)) = omega arith
piece_short jumps (piece.Let (expr.Imm n)) = omega arith
piece_short jumps (piece.Let (expr.Sum at (side.Cell b))) = omega arith
piece_short jumps (piece.Let (expr.Sum at (side.Imm n))) = omega arith
piece_short jumps (piece.Let (expr.Diff at (side.Cell b))) = omega arith
piece_short jumps (piece.Let (expr.Diff at (side.Imm n))) = omega arith
piece_short jumps (piece.Let (expr.Product at (side.Cell b))) = omega arith
piece_short jumps (piece.Let (expr.Product at (side.Imm n))) = omega arith
piece_short jumps (piece.Reserve n) = omega arith
piece_short jumps (piece.Hint cell ask) = omega arith
piece_short jumps (piece.Assert cell (expr.Cell at)) = omega arith
piece_short jumps (piece.Assert cell (expr.DoubleCell at inner)) = omega arith
piece_short jumps (piece.Assert cell (expr.Imm n)) = omega arith
piece_short jumps (piece.Assert cell (expr.Sum at (side.Cell b))) = omega arith
piece_short jumps (piece.Assert cell (expr.Sum at (side.Imm n))) = omega arith
piece_short jumps (piece.Assert cell (expr.Diff at (side.Cell b))) = omega arith
piece_short jumps (piece.Assert cell (expr.Diff at (side.Imm n))) = omega arith
piece_short jumps (piece.Assert cell (expr.Product at (side.Cell b))) = omega arith
piece_short jumps (piece.Assert cell (expr.Product at (side.Imm n))) = omega arith
piece_short jumps (piece.Range pointer at cell) = omega arith
piece_short jumps (piece.IfNonZero cell to) = omega arith
piece_short true (piece.Exit x) = omega arith
piece_short false (piece.Exit x) = omega arith

all_short : (jumps : Bool) (ps : List Piece) → code_cells jumps ps ≤ 2 * length ps
all_short jumps [] = omega arith
all_short jumps (p ∷ ps) =
    let one : cells_of jumps p ≤ 2 = piece_short jumps p in
    let rest : code_cells jumps ps ≤ 2 * length ps = all_short jumps ps in
    let both = code_cells-cons jumps p ps in
    omega (arith, one, rest, both)

pub code_short : (f : List Piece) → length f ≤ 1000 → 100 + cells_of_code f ≤ 2 ^ 25
code_short f few =
    let short : code_cells (has_jump f) f ≤ 2 * length f = all_short (has_jump f) f in
    omega (arith, short, few)

pub led : (f : List Piece) (exits : List ℕ) → All (IsLed exits) f → AreEntries f exits
led f exits all x named = All-contains (IsLed exits) f (piece.Exit x) all named
