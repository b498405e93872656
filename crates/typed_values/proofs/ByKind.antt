-- What is read of a type, by its kind and by the types that it is made of; and how deep those are.
use Rattle.std.proofs.Common.{◌≡◌, ℕ, suc, ◌+◌, ◌≤◌, ◌<◌, List, [], ◌∷◌, length, max, get_or, drop, Option, None, Result, Err, zero, map, refl, sym, ap, ◌∙◌, subst, arith}
use Rattle.std.proofs.Math.Seq.{drop-cons}
use Rattle.type_trees.specs.Ty.{Ty, Tys, number, nonzero, range_check, gas_builtin, box, array, snapshot, struct, enum, dict, dict_entry, squashed_dict, uninitialized, no_types, types, depth, greatest_depth}
use Rattle.type_table.specs.Trees.{kind_of, parts, listed}
use Rattle.type_table.specs.View.{RowView, joined, tree_at, trees_at}
use Rattle.type_table.specs.declared.kind.TypeKind.{TypeKind}
use Rattle.type_table.specs.declared.kind.TypeKind.TheVariants as kinds
use Rattle.type_table.specs.declared.type_id.TypeId.{TypeId}
use Rattle.type_trees.specs.declared.num.Num.{Num}
use Rattle.text_reading.specs.Reading.{Answer.answers}
use Rattle.typed_values.specs.Inputs.{most_elements}
use Rattle.typed_values.specs.Kinds.{number_of, struct_at, enum_at, array_of, value_of_kind, struct_form_at, enum_form_at, array_form_of, form_of_kind}
use Rattle.typed_values.specs.Marks.{ValueReader, count, none_at}
use Rattle.typed_values.specs.Reading.{value_at, variant_at}
use Rattle.typed_values.specs.Skimming.{skim_at, skim_variant}

pub joined_listed : (tys : Tys) → joined (listed tys) ≡ tys
joined_listed no_types = refl
joined_listed (types ty tys) = ap (types ty) (joined_listed tys)

length_listed : (tys : Tys) → length (listed tys) ≡ count tys
length_listed no_types = refl
length_listed (types ty tys) = ap suc (length_listed tys)

pub by_kind : (ty : Ty) → value_of_kind (kind_of ty) (parts ty) ≡ value_at most_elements ty
unfolding value_at number_of struct_at enum_at array_of
by_kind (number k) = refl
by_kind (nonzero k) = refl
by_kind range_check = refl
by_kind gas_builtin = refl
by_kind (box ty) = refl
by_kind (array ty) = refl
by_kind (snapshot ty) = refl
by_kind (struct name tys) = ap struct_at (joined_listed tys)
by_kind (enum name tys) = ap (λ n. enum_at n (joined (listed tys))) (length_listed tys) ∙ ap (enum_at (count tys)) (joined_listed tys)
by_kind (dict k) = refl
by_kind (dict_entry k) = refl
by_kind (squashed_dict k) = refl
by_kind (uninitialized ty) = refl

pub form_by_kind : (ty : Ty) → form_of_kind (kind_of ty) (parts ty) ≡ skim_at most_elements ty
unfolding skim_at struct_form_at enum_form_at array_form_of
form_by_kind (number k) = refl
form_by_kind (nonzero k) = refl
form_by_kind range_check = refl
form_by_kind gas_builtin = refl
form_by_kind (box ty) = refl
form_by_kind (array ty) = refl
form_by_kind (snapshot ty) = refl
form_by_kind (struct name tys) = ap struct_form_at (joined_listed tys)
form_by_kind (enum name tys) = ap (λ n. enum_form_at n (joined (listed tys))) (length_listed tys) ∙ ap (enum_form_at (count tys)) (joined_listed tys)
form_by_kind (dict k) = refl
form_by_kind (dict_entry k) = refl
form_by_kind (squashed_dict k) = refl
form_by_kind (uninitialized ty) = refl

-- ---- what is read of a type of this kind, which is made of these types

pub value_of : (kind : TypeKind) (tys : List Ty) (ty : Ty) → kind ≡ kind_of ty → tys ≡ parts ty → value_of_kind kind tys ≡ value_at most_elements ty
value_of kind tys ty kind_is parts_are = ap (λ k. value_of_kind k tys) kind_is ∙ ap (value_of_kind (kind_of ty)) parts_are ∙ by_kind ty

pub form_of : (kind : TypeKind) (tys : List Ty) (ty : Ty) → kind ≡ kind_of ty → tys ≡ parts ty → form_of_kind kind tys ≡ skim_at most_elements ty
form_of kind tys ty kind_is parts_are = ap (λ k. form_of_kind k tys) kind_is ∙ ap (form_of_kind (kind_of ty)) parts_are ∙ form_by_kind ty

-- the list of the one type
pub one_type : (rows : List RowView) (ids : List TypeId) (d : TypeId) → 1 ≤ length ids → length ids < 2 → trees_at rows ids ≡ tree_at rows (get_or ids 0 d).0 ∷ []
one_type rows [] d some few = absurd (omega arith)
one_type rows (id ∷ []) d some few = refl
one_type rows (id ∷ other ∷ ids) d some few = absurd (omega arith)

-- the types from here on
pub types_from : (rows : List RowView) (ids : List TypeId) (i : ℕ) (d : TypeId) → i < length ids
    → joined (trees_at rows (drop i ids)) ≡ types (tree_at rows (get_or ids i d).0) (joined (trees_at rows (drop (i + 1) ids)))
types_from rows ids i d below =
    ap (λ l. joined (trees_at rows l)) (drop-cons ids i d below)
    ∙ ap (λ n. types (tree_at rows (get_or ids i d).0) (joined (trees_at rows (drop n ids)))) (one_more i)
  where
    one_more : (n : ℕ) → suc n ≡ n + 1
    one_more n = omega arith

-- the variant with this index
pub value_picked : (rows : List RowView) (ids : List TypeId) (i : ℕ) (d : TypeId) → i < length ids
    → value_at most_elements (tree_at rows (get_or ids i d).0) ≡ variant_at most_elements (joined (trees_at rows ids)) i
unfolding variant_at
value_picked rows [] i d below = absurd (omega arith)
value_picked rows (id ∷ ids) zero d below = refl
value_picked rows (id ∷ ids) (suc i) d below = value_picked rows ids i d (omega arith)

pub form_picked : (rows : List RowView) (ids : List TypeId) (i : ℕ) (d : TypeId) → i < length ids
    → skim_at most_elements (tree_at rows (get_or ids i d).0) ≡ skim_variant most_elements (joined (trees_at rows ids)) i
unfolding skim_variant
form_picked rows [] i d below = absurd (omega arith)
form_picked rows (id ∷ ids) zero d below = refl
form_picked rows (id ∷ ids) (suc i) d below = form_picked rows ids i d (omega arith)

-- ---- depths

greatest_listed : (tys : Tys) → greatest_depth (joined (listed tys)) ≡ greatest_depth tys
greatest_listed tys = ap greatest_depth (joined_listed tys)

-- what a type is made of is less deep
lower : (ty : Ty) → suc (greatest_depth (joined (parts ty))) ≤ depth ty
lower (number k) = omega arith
lower (nonzero k) = omega arith
lower range_check = omega arith
lower gas_builtin = omega arith
lower (box ty) = omega arith
lower (array ty) = omega arith
lower (snapshot ty) = omega arith
lower (struct name tys) = omega (arith, greatest_listed tys)
lower (enum name tys) = omega (arith, greatest_listed tys)
lower (dict k) = omega arith
lower (dict_entry k) = omega arith
lower (squashed_dict k) = omega arith
lower (uninitialized ty) = omega arith

pub lower_parts : (tys : List Ty) (ty : Ty) → tys ≡ parts ty → suc (greatest_depth (joined tys)) ≤ depth ty
lower_parts tys ty are = subst (λ l. suc (greatest_depth (joined l)) ≤ depth ty) (sym are) (lower ty)

-- each of some types is at most as deep as the deepest
pub lower_part : (rows : List RowView) (ids : List TypeId) (i : ℕ) (d : TypeId) → i < length ids → depth (tree_at rows (get_or ids i d).0) ≤ greatest_depth (joined (trees_at rows ids))
lower_part rows [] i d below = absurd (omega arith)
lower_part rows (id ∷ ids) zero d below = omega arith
lower_part rows (id ∷ ids) (suc i) d below = let less = lower_part rows ids i d (omega arith) in omega arith

-- behind the last one there is none
pub no_types_from : (rows : List RowView) (ids : List TypeId) (i : ℕ) → length ids ≤ i → joined (trees_at rows (drop i ids)) ≡ no_types
no_types_from rows ids i past = ap (λ l. joined (trees_at rows l)) (none ids i past)
  where
    none : (ids : List TypeId) (i : ℕ) → length ids ≤ i → drop i ids ≡ []
    none [] zero past = refl
    none [] (suc i) past = refl
    none (id ∷ ids) zero past = absurd (omega arith)
    none (id ∷ ids) (suc i) past = none ids i (omega arith)

-- values of other kinds have no text
pub no_value : (kind : TypeKind) (tys : List Ty) (bytes : List ℕ) → ((k : Num) → kind ≡ kinds.Number k → ⊥) → (kind ≡ kinds.Array → ⊥) → (kind ≡ kinds.Struct → ⊥) → (kind ≡ kinds.Enum → ⊥)
    → value_of_kind kind tys bytes ≡ answers (Err None) bytes
no_value (kinds.NonZero k) tys bytes other_number other_array other_struct other_enum = refl
no_value kinds.RangeCheck tys bytes other_number other_array other_struct other_enum = refl
no_value kinds.GasBuiltin tys bytes other_number other_array other_struct other_enum = refl
no_value kinds.Box tys bytes other_number other_array other_struct other_enum = refl
no_value kinds.Snapshot tys bytes other_number other_array other_struct other_enum = refl
no_value (kinds.Dict k) tys bytes other_number other_array other_struct other_enum = refl
no_value (kinds.DictEntry k) tys bytes other_number other_array other_struct other_enum = refl
no_value (kinds.SquashedDict k) tys bytes other_number other_array other_struct other_enum = refl
no_value kinds.Uninitialized tys bytes other_number other_array other_struct other_enum = refl
no_value (kinds.Number k) tys bytes other_number other_array other_struct other_enum = absurd (other_number k refl)
no_value kinds.Array tys bytes other_number other_array other_struct other_enum = absurd (other_array refl)
no_value kinds.Struct tys bytes other_number other_array other_struct other_enum = absurd (other_struct refl)
no_value kinds.Enum tys bytes other_number other_array other_struct other_enum = absurd (other_enum refl)

pub no_form : (kind : TypeKind) (tys : List Ty) (bytes : List ℕ) → ((k : Num) → kind ≡ kinds.Number k → ⊥) → (kind ≡ kinds.Array → ⊥) → (kind ≡ kinds.Struct → ⊥) → (kind ≡ kinds.Enum → ⊥)
    → form_of_kind kind tys bytes ≡ answers (Err None) bytes
no_form (kinds.NonZero k) tys bytes other_number other_array other_struct other_enum = refl
no_form kinds.RangeCheck tys bytes other_number other_array other_struct other_enum = refl
no_form kinds.GasBuiltin tys bytes other_number other_array other_struct other_enum = refl
no_form kinds.Box tys bytes other_number other_array other_struct other_enum = refl
no_form kinds.Snapshot tys bytes other_number other_array other_struct other_enum = refl
no_form (kinds.Dict k) tys bytes other_number other_array other_struct other_enum = refl
no_form (kinds.DictEntry k) tys bytes other_number other_array other_struct other_enum = refl
no_form (kinds.SquashedDict k) tys bytes other_number other_array other_struct other_enum = refl
no_form kinds.Uninitialized tys bytes other_number other_array other_struct other_enum = refl
no_form (kinds.Number k) tys bytes other_number other_array other_struct other_enum = absurd (other_number k refl)
no_form kinds.Array tys bytes other_number other_array other_struct other_enum = absurd (other_array refl)
no_form kinds.Struct tys bytes other_number other_array other_struct other_enum = absurd (other_struct refl)
no_form kinds.Enum tys bytes other_number other_array other_struct other_enum = absurd (other_enum refl)

-- the same of types as a list
pub list_from : (rows : List RowView) (ids : List TypeId) (i : ℕ) (d : TypeId) → i < length ids
    → trees_at rows (drop i ids) ≡ tree_at rows (get_or ids i d).0 ∷ trees_at rows (drop (i + 1) ids)
list_from rows ids i d below =
    ap (trees_at rows) (drop-cons ids i d below) ∙ ap (λ n. tree_at rows (get_or ids i d).0 ∷ trees_at rows (drop n ids)) (one_more i)
  where
    one_more : (n : ℕ) → suc n ≡ n + 1
    one_more n = omega arith

pub empty_from : (rows : List RowView) (ids : List TypeId) (i : ℕ) → length ids ≤ i → trees_at rows (drop i ids) ≡ []
empty_from rows ids i past = ap (trees_at rows) (none ids i past)
  where
    none : (ids : List TypeId) (i : ℕ) → length ids ≤ i → drop i ids ≡ []
    none [] zero past = refl
    none [] (suc i) past = refl
    none (id ∷ ids) zero past = absurd (omega arith)
    none (id ∷ ids) (suc i) past = none ids i (omega arith)
