-- A libfunc over enums or structs is written with one.
use Rattle.std.proofs.Common.{◌≡◌, ℕ, zero, suc, ◌<◌, List, [], ◌∷◌, ◌++◌, length, get_or, sym, subst, arith}
use Rattle.type_trees.specs.Ty.{Ty, Tys, enum, struct}
use Rattle.type_trees.specs.declared.num.Num.{Num}
use Rattle.sierra_types.specs.declared.program.Arg.{Arg}
use Rattle.type_table.specs.declared.type_id.TypeId.{TypeId}
use Rattle.type_table.specs.Trees.{listed}
use Rattle.type_table.specs.View.{TypesView, tree_of}
use Rattle.libfunc_registry.specs.declared.width.Width.{Width}
use Rattle.libfunc_registry.specs.declared.libfunc.Libfunc.{Libfunc}
use Rattle.libfunc_registry.specs.declared.libfunc.Libfunc.TheVariants as libfuncs
use Rattle.libfunc_registry.specs.Arguments.{Form, nothing, a_type, a_number_type, an_enum, a_variant, a_struct, a_function, a_constant, two_widths, Makes}
use Rattle.libfunc_registry.specs.Control.{control_rows}
use Rattle.libfunc_registry.specs.Gas.{gas_rows}
use Rattle.libfunc_registry.specs.Felts.{felts_rows}
use Rattle.libfunc_registry.specs.Integers.{u8_rows, u16_rows, u32_rows, cast_rows}
use Rattle.libfunc_registry.specs.Data.{data_rows}
use Rattle.libfunc_registry.specs.Arrays.{arrays_rows}
use Rattle.libfunc_registry.specs.Dictionaries.{dictionaries_rows}
use Rattle.libfunc_registry.specs.Fam.{rows, IsWritten}

abbrev pub IsEnum : Ty → Type 0
IsEnum ty = (name : List ℕ) × (variants : Tys) × (ty ≡ enum name variants)

abbrev pub IsStruct : Ty → Type 0
IsStruct ty = (name : List ℕ) × (members : Tys) × (ty ≡ struct name members)

-- the types of the libfunc are of the kinds that it is over
abbrev pub IsKinded : TypesView → Libfunc → Type 0
IsKinded types (libfuncs.EnumInit t index) = (name : List ℕ) × (variants : Tys) × (tree_of types t.0 ≡ enum name variants) × (index < length (listed variants))
IsKinded types (libfuncs.EnumMatch t) = IsEnum (tree_of types t.0)
IsKinded types (libfuncs.EnumSnapshotMatch t) = IsEnum (tree_of types t.0)
IsKinded types (libfuncs.StructConstruct t) = IsStruct (tree_of types t.0)
IsKinded types (libfuncs.StructDeconstruct t) = IsStruct (tree_of types t.0)
IsKinded types (libfuncs.StructSnapshotDeconstruct t) = IsStruct (tree_of types t.0)
IsKinded types _ = Unit {0}

-- what arguments of the form make is of these kinds
abbrev Kinds : TypesView → Form → Type 0
Kinds types (nothing l) = IsKinded types l
Kinds types (a_type make) = (t : TypeId) → IsKinded types (make t)
Kinds types (a_number_type make) = (num : Num) → IsKinded types (make num)
Kinds types (an_enum make) = (t : TypeId) → IsEnum (tree_of types t.0) → IsKinded types (make t)
Kinds types (a_variant make) = (t : TypeId) (index : ℕ) → IsKinded types (libfuncs.EnumInit t index) → IsKinded types (make t index)
Kinds types (a_struct make) = (t : TypeId) → IsStruct (tree_of types t.0) → IsKinded types (make t)
Kinds types (a_function make) = (f : ℕ) → IsKinded types (make f)
Kinds types (a_constant num make) = (word : ℕ) → IsKinded types (make word)
Kinds types (two_widths may make) = (a b : Width) → IsKinded types (make a b)

record Both (A B : Type 0) : Type 0 where
  first : A
  rest : B

infixr 5 ◌&◌
abbrev ◌&◌ : {A B : Type 0} → A → B → Both A B
a & b = record { first = a; rest = b }

abbrev AllKinds : TypesView → List (List ℕ × Form) → Type 0
AllKinds types [] = Unit {0}
AllKinds types (row ∷ rows) = Both (Kinds types row.1) (AllKinds types rows)

both : (types : TypesView) (xs ys : List (List ℕ × Form)) → AllKinds types xs → AllKinds types ys → AllKinds types (xs ++ ys)
both types [] ys one two = two
both types (x ∷ xs) ys one two = record { first = one.first; rest = both types xs ys one.rest two }

kinds_at : (types : TypesView) (xs : List (List ℕ × Form)) → AllKinds types xs → (k : ℕ) → k < length xs → (y : List ℕ × Form) → get_or xs k y ≡ y → Kinds types y.1
kinds_at types [] all k within y at = absurd (omega arith)
kinds_at types (x ∷ xs) all zero within y at = subst (λ (z : List ℕ × Form). Kinds types z.1) at all.first
kinds_at types (x ∷ xs) all (suc k) within y at = kinds_at types xs all.rest k (omega arith) y at

control_kinds : (types : TypesView) → AllKinds types control_rows
unfolding control_rows
control_kinds types = tt & (tt & ((λ t. tt) & ((λ t. tt) & ((λ t. tt) & ((λ t. tt) & ((λ t. tt) & ((λ t. tt) & (tt & (tt & (tt & tt))))))))))

gas_kinds : (types : TypesView) → AllKinds types gas_rows
unfolding gas_rows
gas_kinds types = (λ f. tt) & (tt & tt)

felts_kinds : (types : TypesView) → AllKinds types felts_rows
unfolding felts_rows
felts_kinds types = (λ w. tt) & ((λ w. tt) & ((λ w. tt) & ((λ w. tt) & (tt & (tt & (tt & (tt & (tt & (tt & (tt & ((λ num. tt) & tt)))))))))))

u8_kinds : (types : TypesView) → AllKinds types u8_rows
unfolding u8_rows
u8_kinds types = tt & (tt & (tt & (tt & (tt & (tt & (tt & tt))))))

u16_kinds : (types : TypesView) → AllKinds types u16_rows
unfolding u16_rows
u16_kinds types = tt & (tt & (tt & (tt & (tt & (tt & (tt & tt))))))

u32_kinds : (types : TypesView) → AllKinds types u32_rows
unfolding u32_rows
u32_kinds types = tt & (tt & (tt & (tt & (tt & (tt & (tt & tt))))))

cast_kinds : (types : TypesView) → AllKinds types cast_rows
unfolding cast_rows
cast_kinds types = (λ a b. tt) & ((λ a b. tt) & tt)

data_kinds : (types : TypesView) → AllKinds types data_rows
unfolding data_rows
data_kinds types = (λ t index kind. kind) & ((λ t kind. kind) & ((λ t kind. kind) & ((λ t kind. kind) & ((λ t kind. kind) & ((λ t kind. kind) & ((λ t. tt) & ((λ t. tt) & ((λ t. tt) & tt))))))))

arrays_kinds : (types : TypesView) → AllKinds types arrays_rows
unfolding arrays_rows
arrays_kinds types = (λ t. tt) & ((λ t. tt) & ((λ t. tt) & ((λ t. tt) & ((λ t. tt) & tt))))

dictionaries_kinds : (types : TypesView) → AllKinds types dictionaries_rows
unfolding dictionaries_rows
dictionaries_kinds types = (λ num. tt) & ((λ num. tt) & ((λ num. tt) & ((λ num. tt) & ((λ num. tt) & tt))))

all_kinds : (types : TypesView) → AllKinds types rows
all_kinds types =
    both types control_rows _ (control_kinds types) (both types gas_rows _ (gas_kinds types) (both types felts_rows _ (felts_kinds types)
    (both types (u8_rows ++ (u16_rows ++ (u32_rows ++ cast_rows))) _
    (both types u8_rows _ (u8_kinds types) (both types u16_rows _ (u16_kinds types) (both types u32_rows cast_rows (u32_kinds types) (cast_kinds types))))
    (both types data_rows _ (data_kinds types) (both types arrays_rows dictionaries_rows (arrays_kinds types) (dictionaries_kinds types))))))

made : (types : TypesView) (form : Form) (given : List Arg) (l : Libfunc) → Kinds types form → Makes types form given l → IsKinded types l
made types (nothing m) given l kinds (none, is) = subst (IsKinded types) (sym is) kinds
made types (a_type make) given l kinds (id, t, written, names, is) = subst (IsKinded types) (sym is) (kinds t)
made types (a_number_type make) given l kinds (id, num, written, names, is) = subst (IsKinded types) (sym is) (kinds num)
made types (an_enum make) given l kinds (id, t, name, variants, written, names, tree, is) = subst (IsKinded types) (sym is) (kinds t (name, variants, tree))
made types (a_variant make) given l kinds (id, t, name, variants, index, written, names, tree, within, is) = subst (IsKinded types) (sym is) (kinds t index (name, variants, tree, within))
made types (a_struct make) given l kinds (id, t, name, members, written, names, tree, is) = subst (IsKinded types) (sym is) (kinds t (name, members, tree))
made types (a_function make) given l kinds (id, f, written, names, is) = subst (IsKinded types) (sym is) (kinds f)
made types (a_constant num make) given l kinds (negative, n, word, written, is_word, is) = subst (IsKinded types) (sym is) (kinds word)
made types (two_widths may make) given l kinds (from, to, a, b, written, from_is, to_is, may_be, is) = subst (IsKinded types) (sym is) (kinds a b)

pub written_kinds : (types : TypesView) (name : List ℕ) (given : List Arg) (l : Libfunc) → IsWritten types l name given → IsKinded types l
written_kinds types name given l (form, here, makes) = made types form given l (kinds_at types rows (all_kinds types) here.0 here.1 (name, form) here.2) makes
