-- Numbers of results are below the field's order.
use Rattle.std.proofs.Common.{ℕ, zero, suc, ◌+◌, ◌-◌, ◌<◌, ◌==◌, cond, true, false, List, [], ◌∷◌, ◌++◌, map, arith}
use Rattle.std.specs.List.{All, range_with_len}
use Rattle.std.proofs.lemmas.List.Elements.{All-nil, All-cons, All-head, All-tail, All-append, All-map, All-weaker}
use Rattle.felt64.specs.Field.{modulus}
use Rattle.type_trees.specs.Ty.{size}
use Rattle.type_trees.specs.declared.num.Num.{Num}
use Rattle.type_trees.specs.declared.num.Num.TheVariants as nums
use Rattle.libfunc_registry.specs.Control as controls
use Rattle.libfunc_registry.specs.Gas as gases
use Rattle.libfunc_registry.specs.Felts as felt
use Rattle.libfunc_registry.specs.Integers as integer
use Rattle.libfunc_registry.specs.Data as datas
use Rattle.libfunc_registry.specs.Data.{part_at}
use Rattle.libfunc_registry.specs.Arrays as array
use Rattle.libfunc_registry.specs.Dictionaries as dictionary
use Rattle.libfunc_registry.specs.Fam.{Fam, control, gas, felts, integers, data_, arrays, dictionaries}
use Rattle.casm_word.specs.declared.cell_expr.CellExpr.{CellExpr}
use Rattle.casm_word.specs.declared.cell_expr.CellExpr.TheVariants as expr
use Rattle.casm_word.specs.declared.cell_expr.Side.{Side}
use Rattle.casm_word.specs.declared.cell_expr.Side.TheVariants as side
use Rattle.casm_word.specs.Expressions.{IsExprInField, IsSideInField, lowered, lowered_side}
use Rattle.cell_terms.specs.declared.term.Slot.TheVariants as slots
use Rattle.cell_terms.specs.declared.term.Second.{Second}
use Rattle.cell_terms.specs.declared.term.Second.TheVariants as seconds
use Rattle.cell_terms.specs.declared.term.Term.{Term}
use Rattle.cell_terms.specs.declared.term.Term.TheVariants as terms
use Rattle.cell_terms.specs.Resolving.{argument, side_of, resolve}
use Rattle.cost_table.specs.declared.row.Row.{Row}
use Rattle.cost_table.specs.Rows.{row, by_branch}
use Rattle.cost_table.specs.Terms.{further, run, whole, advanced, operand, operand_of, pointer, last}
use Rattle.cost_table.specs.Dictionaries.{entry_row}
use Rattle.cost_table.specs.Results.{cells_of, branch_types, moved_by, result_terms, results}

abbrev SecondInField : Second → Type 0
SecondInField (seconds.Slot n) = Unit {0}
SecondInField (seconds.Number k) = k < modulus

abbrev TermInField : Term → Type 0
TermInField (terms.Whole i) = Unit {0}
TermInField (terms.Cell n) = Unit {0}
TermInField (terms.Behind n k) = Unit {0}
TermInField (terms.Word k) = k < modulus
TermInField (terms.Add n o) = SecondInField o
TermInField (terms.Sub n o) = SecondInField o
TermInField (terms.Mul n o) = SecondInField o

lowered_side_in : (d : ℕ) (s : Side) → IsSideInField s → IsSideInField (lowered_side d s)
lowered_side_in d (side.Cell at) held = tt
lowered_side_in d (side.Imm n) held = held

lowered_in : (d : ℕ) (e : CellExpr) → IsExprInField e → IsExprInField (lowered d e)
lowered_in d (expr.Cell at) held = tt
lowered_in d (expr.DoubleCell at inner) held = tt
lowered_in d (expr.Imm n) held = held
lowered_in d (expr.Sum at s) held = lowered_side_in d s held
lowered_in d (expr.Diff at s) held = lowered_side_in d s held
lowered_in d (expr.Product at s) held = lowered_side_in d s held

argument_in : (args : List CellExpr) (i : ℕ) → All IsExprInField args → IsExprInField (argument args i)
argument_in [] i held = omega arith
argument_in (e ∷ args) zero held = All-head IsExprInField e args held
argument_in (e ∷ args) (suc i) held = argument_in args i (All-tail IsExprInField e args held)

second_in : (d : ℕ) (args : List CellExpr) (o : Second) → SecondInField o → IsSideInField (side_of d args o)
second_in d args (seconds.Slot n) held = tt
second_in d args (seconds.Number k) held = held

resolve_in : (d : ℕ) (args : List CellExpr) → All IsExprInField args → (t : Term) → TermInField t → IsExprInField (resolve d args t)
resolve_in d args all (terms.Whole i) held = lowered_in d (argument args i) (argument_in args i all)
resolve_in d args all (terms.Cell n) held = tt
resolve_in d args all (terms.Behind n k) held = tt
resolve_in d args all (terms.Word k) held = held
resolve_in d args all (terms.Add n o) held = second_in d args o held
resolve_in d args all (terms.Sub n o) held = second_in d args o held
resolve_in d args all (terms.Mul n o) held = second_in d args o held

further_in : (t : Term) (k : ℕ) → TermInField t → TermInField (further t k)
further_in (terms.Whole i) k held = tt
further_in (terms.Cell (slots.Own i)) k held = tt
further_in (terms.Cell (slots.Arg i)) k held = tt
further_in (terms.Cell (slots.Frame i)) k held = tt
further_in (terms.Behind n i) k held = tt
further_in (terms.Word n) k held = held
further_in (terms.Add n o) k held = held
further_in (terms.Sub n o) k held = held
further_in (terms.Mul n o) k held = held

each_in : (t : Term) → TermInField t → (ks : List ℕ) → All TermInField (map (further t) ks)
each_in t held [] = All-nil TermInField
each_in t held (k ∷ ks) = All-cons TermInField (further t k) (map (further t) ks) (further_in t k held) (each_in t held ks)

run_in : (t : Term) (n : ℕ) → TermInField t → All TermInField (run t n)
run_in t n held = each_in t held (range_with_len 0 n)

nil : All TermInField []
nil = All-nil TermInField

cons : (t : Term) (ts : List Term) → TermInField t → All TermInField ts → All TermInField (t ∷ ts)
cons t ts held all = All-cons TermInField t ts held all

single : (t : Term) → TermInField t → All TermInField (t ∷ [])
single t held = cons t [] held nil

pointer_in : (r : Row) → r.checks < modulus → TermInField (pointer r)
pointer_in r few = elim (r.checks == 0) as (λ b. TermInField (cond b (whole 0) (advanced 0 r.checks))) [ true ↦ tt | false ↦ few ]

-- numbers of the row are small
abbrev RowInField : Row → Type 0
RowInField r = r.checks < modulus

either_in : (branch : ℕ) (a b : List Term) → All TermInField a → All TermInField b → All TermInField (by_branch branch a b)
either_in branch a b first second = elim (branch == 0) as (λ t. All TermInField (cond t a b)) [ true ↦ first | false ↦ second ]

row_in : (branch : ℕ) (a b : Row) → RowInField a → RowInField b → RowInField (by_branch branch a b)
row_in branch a b first second = elim (branch == 0) as (λ t. RowInField (cond t a b)) [ true ↦ first | false ↦ second ]

operand_is_in : (i : ℕ) (e : CellExpr) → IsExprInField e → SecondInField (operand_of i e)
operand_is_in i (expr.Cell at) held = tt
operand_is_in i (expr.DoubleCell at inner) held = tt
operand_is_in i (expr.Imm n) held = held
operand_is_in i (expr.Sum at s) held = tt
operand_is_in i (expr.Diff at s) held = tt
operand_is_in i (expr.Product at s) held = tt

operand_in : (args : List CellExpr) (i : ℕ) → All IsExprInField args → SecondInField (operand args i)
operand_in args i all = operand_is_in i (argument args i) (argument_in args i all)

-- the pointer and one more term
with_pointer : (r : Row) (t : Term) → RowInField r → TermInField t → All TermInField (pointer r ∷ t ∷ [])
with_pointer r t few held = cons (pointer r) (t ∷ []) (pointer_in r few) (single t held)

-- the pointer and the last two cells
with_two : (r : Row) → RowInField r → All TermInField (pointer r ∷ last r 2 ∷ last r 1 ∷ [])
with_two r few = cons (pointer r) (last r 2 ∷ last r 1 ∷ []) (pointer_in r few) (cons (last r 2) (last r 1 ∷ []) tt (single (last r 1) tt))

pair : (t u : Term) → TermInField t → TermInField u → All TermInField (t ∷ u ∷ [])
pair t u held other = cons t (u ∷ []) held (single u other)

-- numbers that a family brings with it are below the field's order
abbrev pub HasSmallNumbers : Fam → Type 0
HasSmallNumbers (felts (felt.const num n)) = n < modulus
HasSmallNumbers (data_ (datas.enum_init ty index)) = index < modulus
HasSmallNumbers (arrays (array.array_append ty)) = size ty < modulus
HasSmallNumbers (arrays (array.array_pop_front ty)) = size ty < modulus
HasSmallNumbers _ = Unit {0}

entry_in : (num : Num) → RowInField (entry_row num)
entry_in nums.Felt64 = omega arith
entry_in nums.U8 = omega arith
entry_in nums.U16 = omega arith
entry_in nums.U32 = omega arith

terms_in_field : (args : List CellExpr) (amount : ℕ) → All IsExprInField args → (fam : Fam) (branch : ℕ) → HasSmallNumbers fam → All TermInField (result_terms args amount fam branch)
terms_in_field args amount all (control controls.branch_align) branch small = nil
terms_in_field args amount all (control controls.jump) branch small = nil
terms_in_field args amount all (control (controls.rename ty)) branch small = run_in (terms.Whole 0) (size ty) tt
terms_in_field args amount all (control (controls.dup ty)) branch small = All-append TermInField (run (terms.Whole 0) (size ty)) (run (terms.Whole 0) (size ty)) (run_in (terms.Whole 0) (size ty) tt) (run_in (terms.Whole 0) (size ty) tt)
terms_in_field args amount all (control (controls.drop ty)) branch small = nil
terms_in_field args amount all (control (controls.store_temp ty)) branch small = run_in (terms.Cell (slots.Own 0)) (size ty) tt
terms_in_field args amount all (control (controls.store_local ty)) branch small = run_in (terms.Whole 0) (size ty) tt
terms_in_field args amount all (control (controls.alloc_local ty)) branch small = run_in (terms.Cell (slots.Frame amount)) (size ty) tt
terms_in_field args amount all (control controls.finalize_locals) branch small = nil
terms_in_field args amount all (control controls.disable_ap_tracking) branch small = nil
terms_in_field args amount all (control controls.enable_ap_tracking) branch small = nil
terms_in_field args amount all (gas (gases.function_call f params results)) branch small = run_in (terms.Cell (slots.Own 0)) (cells_of (branch_types (gas (gases.function_call f params results)) branch)) tt
terms_in_field args amount all (gas gases.withdraw_gas) branch small =
    let few = row_in branch (row 5 1 4) (row 7 1 4) (omega arith) (omega arith) in
    let r = by_branch branch (row 5 1 4) (row 7 1 4) in
    either_in branch (pointer r ∷ last r 1 ∷ []) (pointer r ∷ whole 1 ∷ []) (with_pointer r (last r 1) few tt) (with_pointer r (whole 1) few tt)
terms_in_field args amount all (felts (felt.const num n)) branch small = single (terms.Word n) small
terms_in_field args amount all (felts felt.felt64_add) branch small = single (terms.Add (slots.Arg 0) (operand args 1)) (operand_in args 1 all)
terms_in_field args amount all (felts felt.felt64_sub) branch small = single (terms.Sub (slots.Arg 0) (operand args 1)) (operand_in args 1 all)
terms_in_field args amount all (felts felt.felt64_mul) branch small = single (terms.Mul (slots.Arg 0) (operand args 1)) (operand_in args 1 all)
terms_in_field args amount all (felts (felt.is_zero num)) branch small = either_in branch [] (whole 0 ∷ []) nil (single (whole 0) tt)
terms_in_field args amount all (felts (felt.unwrap_non_zero num)) branch small = single (whole 0) tt
terms_in_field args amount all (integers (integer.to_felt64 w)) branch small = single (whole 0) tt
terms_in_field args amount all (integers (integer.try_from_felt64 w)) branch small =
    let few = row_in branch (row 6 2 6) (row 12 3 6) (omega arith) (omega arith) in
    let r = by_branch branch (row 6 2 6) (row 12 3 6) in
    either_in branch (pointer r ∷ whole 1 ∷ []) (pointer r ∷ []) (with_pointer r (whole 1) few tt) (single (pointer r) (pointer_in r few))
terms_in_field args amount all (integers (integer.overflowing_add w)) branch small = with_pointer (row 6 1 3) (last (row 6 1 3) 1) (omega arith) tt
terms_in_field args amount all (integers (integer.overflowing_sub w)) branch small =
    let few = row_in branch (row 5 1 5) (row 8 1 5) (omega arith) (omega arith) in
    let r = by_branch branch (row 5 1 5) (row 8 1 5) in
    with_pointer r (last r 1) few tt
terms_in_field args amount all (integers (integer.wide_mul w)) branch small = single (terms.Mul (slots.Arg 0) (operand args 1)) (operand_in args 1 all)
terms_in_field args amount all (integers integer.split_mul) branch small = with_two (row 8 3 5) (omega arith)
terms_in_field args amount all (integers (integer.safe_divmod w)) branch small = with_two (row 8 3 5) (omega arith)
terms_in_field args amount all (integers (integer.eq w)) branch small = nil
terms_in_field args amount all (integers (integer.upcast a b)) branch small = single (whole 0) tt
terms_in_field args amount all (integers (integer.downcast a b)) branch small = either_in branch (pointer (row 5 1 2) ∷ whole 1 ∷ []) (pointer (row 5 1 2) ∷ []) (with_pointer (row 5 1 2) (whole 1) (omega arith) tt) (single (pointer (row 5 1 2)) (pointer_in (row 5 1 2) (omega arith)))
terms_in_field args amount all (data_ (datas.enum_init ty index)) branch small =
    let n = size ty - (1 + size (part_at ty index)) in
    let m = size (part_at ty index) in
    cons (terms.Word index) (run (terms.Word 0) n ++ run (terms.Whole 0) m) small
    (All-append TermInField (run (terms.Word 0) n) (run (terms.Whole 0) m) (run_in (terms.Word 0) n (omega arith)) (run_in (terms.Whole 0) m tt))
terms_in_field args amount all (data_ (datas.enum_match ty)) branch small = run_in (terms.Whole (size ty - size (part_at ty branch))) (size (part_at ty branch)) tt
terms_in_field args amount all (data_ (datas.enum_snapshot_match ty)) branch small = run_in (terms.Whole (size ty - size (part_at ty branch))) (size (part_at ty branch)) tt
terms_in_field args amount all (data_ (datas.struct_construct ty)) branch small = run_in (terms.Whole 0) (size ty) tt
terms_in_field args amount all (data_ (datas.struct_deconstruct ty)) branch small = run_in (terms.Whole 0) (size ty) tt
terms_in_field args amount all (data_ (datas.struct_snapshot_deconstruct ty)) branch small = run_in (terms.Whole 0) (size ty) tt
terms_in_field args amount all (data_ (datas.snapshot_take ty)) branch small = All-append TermInField (run (terms.Whole 0) (size ty)) (run (terms.Whole 0) (size ty)) (run_in (terms.Whole 0) (size ty) tt) (run_in (terms.Whole 0) (size ty) tt)
terms_in_field args amount all (data_ (datas.into_box ty)) branch small = single (last (row (1 + size ty) 0 1) 1) tt
terms_in_field args amount all (data_ (datas.unbox ty)) branch small = run_in (terms.Behind (slots.Arg 0) 0) (size ty) tt
terms_in_field args amount all (arrays (array.array_new ty)) branch small = pair (last (row 1 0 1) 1) (last (row 1 0 1) 1) tt tt
terms_in_field args amount all (arrays (array.array_append ty)) branch small = pair (whole 0) (advanced 1 (size ty)) tt small
terms_in_field args amount all (arrays (array.array_len ty)) branch small = single (last (row 3 0 2) 1) tt
terms_in_field args amount all (arrays (array.array_get ty)) branch small =
    let few = row_in branch (row 10 1 7) (row 7 1 7) (omega arith) (omega arith) in
    let r = by_branch branch (row 10 1 7) (row 7 1 7) in
    either_in branch (pointer r ∷ last r 1 ∷ []) (pointer r ∷ []) (with_pointer r (last r 1) few tt) (single (pointer r) (pointer_in r few))
terms_in_field args amount all (arrays (array.array_pop_front ty)) branch small =
    either_in branch (advanced 0 (size ty) ∷ whole 1 ∷ whole 0 ∷ []) (whole 0 ∷ whole 1 ∷ [])
    (cons (advanced 0 (size ty)) (whole 1 ∷ whole 0 ∷ []) small (pair (whole 1) (whole 0) tt tt)) (pair (whole 0) (whole 1) tt tt)
terms_in_field args amount all (dictionaries (dictionary.dict_new num)) branch small = pair (last (row 1 0 1) 1) (last (row 1 0 1) 1) tt tt
terms_in_field args amount all (dictionaries (dictionary.dict_entry_get num)) branch small =
    let r = entry_row num in
    cons (pointer r) (whole 1 ∷ whole 2 ∷ last r 1 ∷ []) (pointer_in r (entry_in num)) (cons (whole 1) (whole 2 ∷ last r 1 ∷ []) tt (pair (whole 2) (last r 1) tt tt))
terms_in_field args amount all (dictionaries (dictionary.dict_entry_finalize num)) branch small = pair (whole 0) (advanced 1 3) tt (omega arith)
terms_in_field args amount all (dictionaries (dictionary.dict_squash num)) branch small = run_in (terms.Cell (slots.Own 0)) (cells_of (branch_types (dictionaries (dictionary.dict_squash num)) branch)) tt
terms_in_field args amount all (dictionaries (dictionary.dict_entries num)) branch small = pair (whole 0) (whole 1) tt tt

pub results_in_field : (args : List CellExpr) (amount : ℕ) → All IsExprInField args → (fam : Fam) (branch : ℕ) → HasSmallNumbers fam
    → All IsExprInField (results args amount fam branch)
results_in_field args amount all fam branch small =
    All-map IsExprInField (resolve (moved_by fam branch) args) (result_terms args amount fam branch)
    (All-weaker TermInField (λ t. IsExprInField (resolve (moved_by fam branch) args t)) (resolve_in (moved_by fam branch) args all)
    (result_terms args amount fam branch) (terms_in_field args amount all fam branch small))
