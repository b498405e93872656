-- What a declaration says of the type that its libfunc is over: an enum with a variant of the index, or a struct.
use Rattle.std.proofs.Common.{◌≡◌, ℕ, zero, suc, ◌+◌, ◌<◌, ◌≤◌, List, [], ◌∷◌, ◌++◌, length, get_or, sym, subst, arith, Bool, true, false}
use Rattle.felt64.specs.Field.{modulus}
use Rattle.std.specs.List.{sum_by}
use Rattle.type_trees.specs.Ty.{Tys, enum, struct, size}
use Rattle.type_trees.specs.declared.num.Num.{Num}
use Rattle.type_trees.specs.declared.num.Num.TheVariants as nums
use Rattle.sierra_types.specs.declared.program.Arg.{Arg}
use Rattle.type_table.specs.declared.type_id.TypeId.{TypeId}
use Rattle.type_table.specs.Trees.{parts, listed}
use Rattle.type_table.specs.View.{TypesView, tree_of}
use Rattle.libfunc_registry.specs.declared.width.Width.{Width}
use Rattle.libfunc_registry.specs.declared.libfunc.Libfunc.{Libfunc}
use Rattle.libfunc_registry.specs.Arguments.{Form, nothing, a_type, a_number_type, an_enum, a_variant, a_struct, a_function, a_constant, two_widths, IsWord, Makes}
use Rattle.libfunc_registry.specs.Data.{data_rows, part_at}
use Rattle.libfunc_registry.specs.Control.{control_rows}
use Rattle.libfunc_registry.specs.Gas.{gas_rows}
use Rattle.libfunc_registry.specs.Felts.{felts_rows}
use Rattle.libfunc_registry.specs.Integers.{u8_rows, u16_rows, u32_rows, cast_rows}
use Rattle.libfunc_registry.specs.Arrays.{arrays_rows}
use Rattle.libfunc_registry.specs.Dictionaries.{dictionaries_rows}
use Rattle.libfunc_registry.specs.Fam.{rows, IsWritten, fam_of}
use Rattle.cost_table.proofs.Counts.{IsShapely, part_fits, together_size}

-- what arguments of the form make is over such types
abbrev Shapes : TypesView → Form → Type 0
Shapes types (nothing l) = IsShapely (fam_of types l)
Shapes types (a_type make) = (t : TypeId) → IsShapely (fam_of types (make t))
Shapes types (a_number_type make) = (num : Num) → IsShapely (fam_of types (make num))
Shapes types (an_enum make) = (t : TypeId) → IsShapely (fam_of types (make t))
Shapes types (a_variant make) = (t : TypeId) (index : ℕ) (name : List ℕ) (variants : Tys) → tree_of types t.0 ≡ enum name variants → index < length (listed variants)
    → IsShapely (fam_of types (make t index))
Shapes types (a_struct make) = (t : TypeId) (name : List ℕ) (members : Tys) → tree_of types t.0 ≡ struct name members → IsShapely (fam_of types (make t))
Shapes types (a_function make) = (f : ℕ) → IsShapely (fam_of types (make f))
Shapes types (a_constant num make) = (word : ℕ) → word < modulus → IsShapely (fam_of types (make word))
Shapes types (two_widths may make) = (a b : Width) → IsShapely (fam_of types (make a b))

record Both (A B : Type 0) : Type 0 where
  first : A
  rest : B

infixr 5 ◌&◌
abbrev ◌&◌ : {A B : Type 0} → A → B → Both A B
a & b = record { first = a; rest = b }

abbrev ShapeAll : TypesView → List (List ℕ × Form) → Type 0
ShapeAll types [] = Unit {0}
ShapeAll types (row ∷ rows) = Both (Shapes types row.1) (ShapeAll types rows)

both_shape : (types : TypesView) (xs ys : List (List ℕ × Form)) → ShapeAll types xs → ShapeAll types ys → ShapeAll types (xs ++ ys)
both_shape types [] ys xs_shape ys_shape = ys_shape
both_shape types (x ∷ xs) ys xs_shape ys_shape = record { first = xs_shape.first; rest = both_shape types xs ys xs_shape.rest ys_shape }

shape_at : (types : TypesView) (xs : List (List ℕ × Form)) → ShapeAll types xs → (k : ℕ) → k < length xs → (y : List ℕ × Form) → get_or xs k y ≡ y → Shapes types y.1
shape_at types [] shape k within y at = absurd (omega arith)
shape_at types (x ∷ xs) shape zero within y at = subst (λ (z : List ℕ × Form). Shapes types z.1) at shape.first
shape_at types (x ∷ xs) shape (suc k) within y at = shape_at types xs shape.rest k (omega arith) y at

any : (t : TypeId) → Unit {0}
any t = tt

any_num : (num : Num) → Unit {0}
any_num num = tt

any_word : (n : ℕ) → Unit {0}
any_word n = tt

small_word : (n : ℕ) → n < modulus → n < modulus
small_word n small = small

-- the word of a constant is a number of the field
is_small : (num : Num) (negative : Bool) (n word : ℕ) → IsWord num negative n word → word < modulus
is_small nums.Felt64 false n word (within, is) = omega arith
is_small nums.U8 false n word (within, is) = omega arith
is_small nums.U16 false n word (within, is) = omega arith
is_small nums.U32 false n word (within, is) = omega arith
is_small nums.Felt64 true n word (positive, within, is) = omega arith
is_small nums.U8 true n word held = absurd held
is_small nums.U16 true n word held = absurd held
is_small nums.U32 true n word held = absurd held

any_widths : (a b : Width) → Unit {0}
any_widths a b = tt

any_struct : (types : TypesView) (t : TypeId) (name : List ℕ) (members : Tys) → tree_of types t.0 ≡ struct name members → Unit {0}
any_struct types t name members is = tt

control_shape : (types : TypesView) → ShapeAll types control_rows
unfolding control_rows
control_shape types = tt & (tt & (any & (any & (any & (any & (any & (any & (tt & (tt & (tt & tt))))))))))

gas_shape : (types : TypesView) → ShapeAll types gas_rows
unfolding gas_rows
gas_shape types = any_word & (tt & tt)

felts_shape : (types : TypesView) → ShapeAll types felts_rows
unfolding felts_rows
felts_shape types = small_word & (small_word & (small_word & (small_word & (tt & (tt & (tt & (tt & (tt & (tt & (tt & (any_num & tt)))))))))))

u8_shape : (types : TypesView) → ShapeAll types u8_rows
unfolding u8_rows
u8_shape types = tt & (tt & (tt & (tt & (tt & (tt & (tt & tt))))))

u16_shape : (types : TypesView) → ShapeAll types u16_rows
unfolding u16_rows
u16_shape types = tt & (tt & (tt & (tt & (tt & (tt & (tt & tt))))))

u32_shape : (types : TypesView) → ShapeAll types u32_rows
unfolding u32_rows
u32_shape types = tt & (tt & (tt & (tt & (tt & (tt & (tt & tt))))))

cast_shape : (types : TypesView) → ShapeAll types cast_rows
unfolding cast_rows
cast_shape types = any_widths & (any_widths & tt)

variant_shape : (types : TypesView) (t : TypeId) (index : ℕ) (name : List ℕ) (variants : Tys) → tree_of types t.0 ≡ enum name variants → index < length (listed variants)
    → 1 + size (part_at (tree_of types t.0) index) ≤ size (tree_of types t.0)
variant_shape types t index name variants is within =
    let fits = part_fits variants index within in
    let here : 1 + size (part_at (enum name variants) index) ≤ size (enum name variants) = omega arith in
    subst (λ ty. 1 + size (part_at ty index) ≤ size ty) (sym is) here

struct_shape : (types : TypesView) (t : TypeId) (name : List ℕ) (members : Tys) → tree_of types t.0 ≡ struct name members
    → size (tree_of types t.0) ≡ sum_by size (parts (tree_of types t.0))
struct_shape types t name members is = subst (λ ty. size ty ≡ sum_by size (parts ty)) (sym is) (together_size members)

data_shape : (types : TypesView) → ShapeAll types data_rows
unfolding data_rows
data_shape types =
    variant_shape types & (any & (any & (any_struct types & (struct_shape types & (struct_shape types & (any & (any & (any & tt))))))))

arrays_shape : (types : TypesView) → ShapeAll types arrays_rows
unfolding arrays_rows
arrays_shape types = any & (any & (any & (any & (any & tt))))

dictionaries_shape : (types : TypesView) → ShapeAll types dictionaries_rows
unfolding dictionaries_rows
dictionaries_shape types = any_num & (any_num & (any_num & (any_num & (any_num & tt))))

rows_shape : (types : TypesView) → ShapeAll types rows
rows_shape types =
    both_shape types control_rows _ (control_shape types) (both_shape types gas_rows _ (gas_shape types) (both_shape types felts_rows _ (felts_shape types)
    (both_shape types (u8_rows ++ (u16_rows ++ (u32_rows ++ cast_rows))) _
    (both_shape types u8_rows _ (u8_shape types) (both_shape types u16_rows _ (u16_shape types) (both_shape types u32_rows cast_rows (u32_shape types) (cast_shape types))))
    (both_shape types data_rows _ (data_shape types) (both_shape types arrays_rows dictionaries_rows (arrays_shape types) (dictionaries_shape types))))))

made_shape : (types : TypesView) (form : Form) (given : List Arg) (l : Libfunc) → Shapes types form → Makes types form given l → IsShapely (fam_of types l)
made_shape types (nothing m) given l shape (none, is) = subst (λ x. IsShapely (fam_of types x)) (sym is) shape
made_shape types (a_type make) given l shape (id, t, written, names, is) = subst (λ x. IsShapely (fam_of types x)) (sym is) (shape t)
made_shape types (a_number_type make) given l shape (id, num, written, names, is) = subst (λ x. IsShapely (fam_of types x)) (sym is) (shape num)
made_shape types (an_enum make) given l shape (id, t, name, variants, written, names, tree, is) = subst (λ x. IsShapely (fam_of types x)) (sym is) (shape t)
made_shape types (a_variant make) given l shape (id, t, name, variants, index, written, names, tree, within, is) =
    subst (λ x. IsShapely (fam_of types x)) (sym is) (shape t index name variants tree within)
made_shape types (a_struct make) given l shape (id, t, name, members, written, names, tree, is) =
    subst (λ x. IsShapely (fam_of types x)) (sym is) (shape t name members tree)
made_shape types (a_function make) given l shape (id, f, written, names, is) = subst (λ x. IsShapely (fam_of types x)) (sym is) (shape f)
made_shape types (a_constant num make) given l shape (negative, n, word, written, is_word, is) =
    subst (λ x. IsShapely (fam_of types x)) (sym is) (shape word (is_small num negative n word is_word))
made_shape types (two_widths may make) given l shape (from, to, a, b, written, from_is, to_is, may_be, is) =
    subst (λ x. IsShapely (fam_of types x)) (sym is) (shape a b)

pub written_shape : (types : TypesView) (name : List ℕ) (given : List Arg) (l : Libfunc) → IsWritten types l name given → IsShapely (fam_of types l)
written_shape types name given l (form, here, makes) =
    made_shape types form given l (shape_at types rows (rows_shape types) here.0 here.1 (name, form) here.2) makes
