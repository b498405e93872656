-- The positions of a libfunc that is written are those of declared types and functions.
use Rattle.std.proofs.Common.{◌≡◌, ℕ, zero, suc, ◌<◌, Bool, List, [], ◌∷◌, ◌++◌, length, get_or, sym, ap, subst, arith}
use Rattle.std.proofs.lemmas.Option.{slice_get_within}
use Rattle.type_trees.specs.declared.num.Num.{Num}
use Rattle.sierra_types.specs.declared.program.Arg.{Arg}
use Rattle.type_table.specs.declared.type_id.TypeId.{TypeId}
use Rattle.type_table.specs.Trees.{parts}
use Rattle.type_table.specs.View.{TypesView, tree_of, IsTable}
use Rattle.libfunc_registry.specs.declared.width.Width.{Width}
use Rattle.libfunc_registry.specs.declared.libfunc.Libfunc.{Libfunc}
use Rattle.libfunc_registry.specs.Arguments.{Form, nothing, a_type, a_number_type, an_enum, a_variant, a_struct, a_function, a_constant, two_widths, Makes, NamesType}
use Rattle.libfunc_registry.specs.Control.{control_rows}
use Rattle.libfunc_registry.specs.Gas.{gas_rows}
use Rattle.libfunc_registry.specs.Felts.{felts_rows}
use Rattle.libfunc_registry.specs.Integers.{u8_rows, u16_rows, u32_rows, cast_rows}
use Rattle.libfunc_registry.specs.Data.{data_rows}
use Rattle.libfunc_registry.specs.Arrays.{arrays_rows}
use Rattle.libfunc_registry.specs.Dictionaries.{dictionaries_rows}
use Rattle.libfunc_registry.specs.Fam.{rows, IsWritten}
use Rattle.libfunc_registry.specs.Wanted.{IsPlaced, IsBelow, HasPart}

-- what arguments of the form make is placed
abbrev Places : TypesView → Form → Type 0
Places types (nothing l) = IsPlaced types l
Places types (a_type make) = (t : TypeId) → IsBelow types t → IsPlaced types (make t)
Places types (a_number_type make) = (num : Num) → IsPlaced types (make num)
Places types (an_enum make) = (t : TypeId) → IsBelow types t → IsPlaced types (make t)
Places types (a_variant make) = (t : TypeId) (index : ℕ) → HasPart types t index → IsPlaced types (make t index)
Places types (a_struct make) = (t : TypeId) → IsBelow types t → IsPlaced types (make t)
Places types (a_function make) = (f : ℕ) → f < length types.functions → IsPlaced types (make f)
Places types (a_constant num make) = (word : ℕ) → IsPlaced types (make word)
Places types (two_widths may make) = (a b : Width) → IsPlaced types (make a b)

record Both (A B : Type 0) : Type 0 where
  first : A
  rest : B

infixr 5 ◌&◌
abbrev ◌&◌ : {A B : Type 0} → A → B → Both A B
a & b = record { first = a; rest = b }

abbrev PlaceAll : TypesView → List (List ℕ × Form) → Type 0
PlaceAll types [] = Unit {0}
PlaceAll types (row ∷ rows) = Both (Places types row.1) (PlaceAll types rows)

both_place : (types : TypesView) (xs ys : List (List ℕ × Form)) → PlaceAll types xs → PlaceAll types ys → PlaceAll types (xs ++ ys)
both_place types [] ys xs_place ys_place = ys_place
both_place types (x ∷ xs) ys xs_place ys_place = record { first = xs_place.first; rest = both_place types xs ys xs_place.rest ys_place }

place-at : (types : TypesView) (xs : List (List ℕ × Form)) → PlaceAll types xs → (k : ℕ) → k < length xs → (y : List ℕ × Form) → get_or xs k y ≡ y → Places types y.1
place-at types [] place k within y at = absurd (omega arith)
place-at types (x ∷ xs) place zero within y at = subst (λ (z : List ℕ × Form). Places types z.1) at place.first
place-at types (x ∷ xs) place (suc k) within y at = place-at types xs place.rest k (omega arith) y at

control_place : (types : TypesView) → PlaceAll types control_rows
unfolding control_rows
control_place types = tt & (tt & ((λ t below. below) & ((λ t below. below) & ((λ t below. below) & ((λ t below. below) & ((λ t below. below) & ((λ t below. below) & (tt & (tt & (tt & tt))))))))))

gas_place : (types : TypesView) → PlaceAll types gas_rows
unfolding gas_rows
gas_place types = (λ f below. below) & (tt & tt)

felts_place : (types : TypesView) → PlaceAll types felts_rows
unfolding felts_rows
felts_place types = (λ w. tt) & ((λ w. tt) & ((λ w. tt) & ((λ w. tt) & (tt & (tt & (tt & (tt & (tt & (tt & (tt & ((λ num. tt) & tt)))))))))))

u8_place : (types : TypesView) → PlaceAll types u8_rows
unfolding u8_rows
u8_place types = tt & (tt & (tt & (tt & (tt & (tt & (tt & tt))))))

u16_place : (types : TypesView) → PlaceAll types u16_rows
unfolding u16_rows
u16_place types = tt & (tt & (tt & (tt & (tt & (tt & (tt & tt))))))

u32_place : (types : TypesView) → PlaceAll types u32_rows
unfolding u32_rows
u32_place types = tt & (tt & (tt & (tt & (tt & (tt & (tt & tt))))))

cast_place : (types : TypesView) → PlaceAll types cast_rows
unfolding cast_rows
cast_place types = (λ a b. tt) & ((λ a b. tt) & tt)

data_place : (types : TypesView) → PlaceAll types data_rows
unfolding data_rows
data_place types = (λ t index part. part) & ((λ t below. below) & ((λ t below. below) & ((λ t below. below) & ((λ t below. below) & ((λ t below. below) & ((λ t below. below) & ((λ t below. below) & ((λ t below. below) & tt))))))))

arrays_place : (types : TypesView) → PlaceAll types arrays_rows
unfolding arrays_rows
arrays_place types = (λ t below. below) & ((λ t below. below) & ((λ t below. below) & ((λ t below. below) & ((λ t below. below) & tt))))

dictionaries_place : (types : TypesView) → PlaceAll types dictionaries_rows
unfolding dictionaries_rows
dictionaries_place types = (λ num. tt) & ((λ num. tt) & ((λ num. tt) & ((λ num. tt) & ((λ num. tt) & tt))))

rows_place : (types : TypesView) → PlaceAll types rows
rows_place types =
    both_place types control_rows _ (control_place types) (both_place types gas_rows _ (gas_place types) (both_place types felts_rows _ (felts_place types)
    (both_place types (u8_rows ++ (u16_rows ++ (u32_rows ++ cast_rows))) _
    (both_place types u8_rows _ (u8_place types) (both_place types u16_rows _ (u16_place types) (both_place types u32_rows cast_rows (u32_place types) (cast_place types))))
    (both_place types data_rows _ (data_place types) (both_place types arrays_rows dictionaries_rows (arrays_place types) (dictionaries_place types))))))

names-below : (types : TypesView) → IsTable types → (id : List ℕ) (t : TypeId) → NamesType types id t → IsBelow types t
names-below types kept id t names =
    let within : t.0 < length types.ids = slice_get_within types.ids t.0 id names in
    let same : length types.ids ≡ length types.rows = kept.each_named in
    omega arith

makes-placed : (types : TypesView) → IsTable types → (form : Form) (given : List Arg) (l : Libfunc) → Places types form → Makes types form given l → IsPlaced types l
makes-placed types kept (nothing m) given l place (none, is) = subst (IsPlaced types) (sym is) place
makes-placed types kept (a_type make) given l place (id, t, written, names, is) = subst (IsPlaced types) (sym is) (place t (names-below types kept id t names))
makes-placed types kept (a_number_type make) given l place (id, num, written, names, is) = subst (IsPlaced types) (sym is) (place num)
makes-placed types kept (an_enum make) given l place (id, t, name, variants, written, names, tree, is) = subst (IsPlaced types) (sym is) (place t (names-below types kept id t names))
makes-placed types kept (a_variant make) given l place (id, t, name, variants, index, written, names, tree, within, is) =
    let inside : index < length (parts (tree_of types t.0)) = subst (λ ty. index < length (parts ty)) (sym tree) within in
    subst (IsPlaced types) (sym is) (place t index (names-below types kept id t names, inside))
makes-placed types kept (a_struct make) given l place (id, t, name, members, written, names, tree, is) = subst (IsPlaced types) (sym is) (place t (names-below types kept id t names))
makes-placed types kept (a_function make) given l place (id, f, written, names, is) =
    let within : f < length types.function_ids = slice_get_within types.function_ids f id names in
    let same : length types.function_ids ≡ length types.functions = kept.each_function_named in
    subst (IsPlaced types) (sym is) (place f (omega arith))
makes-placed types kept (a_constant num make) given l place (negative, n, word, written, is_word, is) = subst (IsPlaced types) (sym is) (place word)
makes-placed types kept (two_widths may make) given l place (from, to, a, b, written, from_is, to_is, may_be, is) = subst (IsPlaced types) (sym is) (place a b)

pub written-placed : (types : TypesView) → IsTable types → (name : List ℕ) (given : List Arg) (l : Libfunc) → IsWritten types l name given → IsPlaced types l
written-placed types kept name given l (form, here, makes) =
    makes-placed types kept form given l (place-at types rows (rows_place types) here.0 here.1 (name, form) here.2) makes
