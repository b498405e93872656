-- What is shown of a type, by its kind and by the types that it is made of; and how deep those are.
use Rattle.std.proofs.Common.{◌≡◌, ℕ, suc, ◌+◌, ◌≤◌, ◌<◌, List, [], ◌∷◌, length, ◌-◌, get_or, drop, None, zero, refl, sym, ap, ◌∙◌, subst, arith}
use Rattle.std.proofs.Math.Seq.{drop-cons}
use Rattle.type_trees.specs.Ty.{Ty, Tys, number, nonzero, range_check, gas_builtin, box, array, snapshot, struct, enum, dict, dict_entry, squashed_dict, uninitialized, no_types, types, size, depth, greatest_depth}
use Rattle.type_table.specs.Trees.{kind_of, parts, listed}
use Rattle.type_table.specs.View.{RowView, joined, tree_at, trees_at}
use Rattle.type_table.specs.declared.kind.TypeKind.{TypeKind}
use Rattle.type_table.specs.declared.type_id.TypeId.{TypeId}
use Rattle.cell_forms.specs.Showing.{shown, shown_together, shown_variant, struct_shown, enum_in, shown_of_kind}

joined_listed : (tys : Tys) → joined (listed tys) ≡ tys
joined_listed no_types = refl
joined_listed (types ty tys) = ap (types ty) (joined_listed tys)

enum_shown : (name : List ℕ) (tys : Tys) (cells : List ℕ) → enum_in tys cells ≡ shown (enum name tys) cells
unfolding shown enum_in
enum_shown name tys [] = refl
enum_shown name tys (index ∷ cells) = refl

by_kind : (ty : Ty) (cells : List ℕ) → shown_of_kind (kind_of ty) (parts ty) cells ≡ shown ty cells
unfolding shown
by_kind (number k) cells = refl
by_kind (nonzero k) cells = refl
by_kind range_check cells = refl
by_kind gas_builtin cells = refl
by_kind (box ty) cells = refl
by_kind (array ty) cells = refl
by_kind (snapshot ty) cells = refl
by_kind (struct name tys) cells = ap (λ l. struct_shown (shown_together l cells)) (joined_listed tys)
by_kind (enum name tys) cells = ap (λ l. enum_in l cells) (joined_listed tys) ∙ enum_shown name tys cells
by_kind (dict k) cells = refl
by_kind (dict_entry k) cells = refl
by_kind (squashed_dict k) cells = refl
by_kind (uninitialized ty) cells = refl

-- what is shown of a type of this kind, which is made of these types
pub shown_of : (kind : TypeKind) (tys : List Ty) (ty : Ty) (cells : List ℕ) → kind ≡ kind_of ty → tys ≡ parts ty → shown_of_kind kind tys cells ≡ shown ty cells
shown_of kind tys ty cells kind_is parts_are = ap (λ k. shown_of_kind k tys cells) kind_is ∙ ap (λ l. shown_of_kind (kind_of ty) l cells) parts_are ∙ by_kind ty cells

-- the types from here on
pub types_from : (rows : List RowView) (ids : List TypeId) (i : ℕ) (d : TypeId) → i < length ids
    → joined (trees_at rows (drop i ids)) ≡ types (tree_at rows (get_or ids i d).0) (joined (trees_at rows (drop (i + 1) ids)))
types_from rows ids i d below =
    ap (λ l. joined (trees_at rows l)) (drop-cons ids i d below)
    ∙ ap (λ n. types (tree_at rows (get_or ids i d).0) (joined (trees_at rows (drop n ids)))) (one_more i)
  where
    one_more : (n : ℕ) → suc n ≡ n + 1
    one_more n = omega arith

-- behind the last one there is none
pub no_types_from : (rows : List RowView) (ids : List TypeId) (i : ℕ) → length ids ≤ i → joined (trees_at rows (drop i ids)) ≡ no_types
no_types_from rows ids i past = ap (λ l. joined (trees_at rows l)) (none ids i past)
  where
    none : (ids : List TypeId) (i : ℕ) → length ids ≤ i → drop i ids ≡ []
    none [] zero past = refl
    none [] (suc i) past = refl
    none (id ∷ ids) zero past = absurd (omega arith)
    none (id ∷ ids) (suc i) past = none ids i (omega arith)

-- the variant with this index, and none past the last one
pub variant_picked : (rows : List RowView) (ids : List TypeId) (i : ℕ) (d : TypeId) (cells : List ℕ) → i < length ids
    → shown (tree_at rows (get_or ids i d).0) (drop (length cells - size (tree_at rows (get_or ids i d).0)) cells) ≡ shown_variant (joined (trees_at rows ids)) i cells
unfolding shown_variant
variant_picked rows [] i d cells below = absurd (omega arith)
variant_picked rows (id ∷ ids) zero d cells below = refl
variant_picked rows (id ∷ ids) (suc i) d cells below = variant_picked rows ids i d cells (omega arith)

pub no_variant : (rows : List RowView) (ids : List TypeId) (i : ℕ) (cells : List ℕ) → length ids ≤ i → shown_variant (joined (trees_at rows ids)) i cells ≡ None
unfolding shown_variant
no_variant rows [] i cells past = refl
no_variant rows (id ∷ ids) zero cells past = absurd (omega arith)
no_variant rows (id ∷ ids) (suc i) cells past = no_variant rows ids i cells (omega arith)

-- ---- depths

greatest_listed : (tys : Tys) → greatest_depth (joined (listed tys)) ≡ greatest_depth tys
greatest_listed tys = ap greatest_depth (joined_listed tys)

-- what a type is made of is less deep
lower : (ty : Ty) → suc (greatest_depth (joined (parts ty))) ≤ depth ty
lower (number k) = omega arith
lower (nonzero k) = omega arith
lower range_check = omega arith
lower gas_builtin = omega arith
lower (box ty) = omega arith
lower (array ty) = omega arith
lower (snapshot ty) = omega arith
lower (struct name tys) = omega (arith, greatest_listed tys)
lower (enum name tys) = omega (arith, greatest_listed tys)
lower (dict k) = omega arith
lower (dict_entry k) = omega arith
lower (squashed_dict k) = omega arith
lower (uninitialized ty) = omega arith

pub lower_parts : (tys : List Ty) (ty : Ty) → tys ≡ parts ty → suc (greatest_depth (joined tys)) ≤ depth ty
lower_parts tys ty are = subst (λ l. suc (greatest_depth (joined l)) ≤ depth ty) (sym are) (lower ty)

-- each of some types is at most as deep as the deepest
pub lower_part : (rows : List RowView) (ids : List TypeId) (i : ℕ) (d : TypeId) → i < length ids → depth (tree_at rows (get_or ids i d).0) ≤ greatest_depth (joined (trees_at rows ids))
lower_part rows [] i d below = absurd (omega arith)
lower_part rows (id ∷ ids) zero d below = omega arith
lower_part rows (id ∷ ids) (suc i) d below = let less = lower_part rows ids i d (omega arith) in omega arith
