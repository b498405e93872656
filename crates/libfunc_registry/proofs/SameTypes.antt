-- Two types are one, or they aren't; and a type is in a table, or it isn't.
use Rattle.std.proofs.Common.{◌≡◌, ◌≢◌, ◌⊎◌, inl, inr, ℕ, zero, suc, ◌<◌, List, [], ◌∷◌, length, Bool, true, false, refl, sym, ap, subst, ◌∙◌, nat_lt, arith}
use Rattle.std.specs.List.{All, AllZip}
use Rattle.std.specs.Str.{bytes_eq}
use Rattle.std.proofs.lemmas.Slice.Eq.{bytes_eq-Decides}
use Rattle.std.proofs.lemmas.Bool.Decides.{nat_tests}
use Rattle.std.proofs.lemmas.List.Elements.{All-tail}
use Rattle.type_trees.specs.Ty.{Ty, Tys, number, nonzero, range_check, gas_builtin, box, array, snapshot, struct, enum, dict, dict_entry, squashed_dict, uninitialized, no_types, types}
use Rattle.type_trees.specs.declared.num.Num.{Num}
use Rattle.type_trees.specs.declared.num.Num.TheVariants as nums
use Rattle.type_table.specs.declared.type_id.TypeId.{TypeId}
use Rattle.type_table.specs.View.{TypesView, tree_of, HasTree, IsInTable}
use Rattle.libfunc_registry.specs.Signature.{AreTrees}

-- a fact holds, or it doesn't
abbrev pub OrNot : Type 0 → Type 0
OrNot P = P ⊎ (P → ⊥)

same_num : (a b : Num) → OrNot (a ≡ b)
same_num nums.Felt64 nums.Felt64 = inl refl
same_num nums.U8 nums.U8 = inl refl
same_num nums.U16 nums.U16 = inl refl
same_num nums.U32 nums.U32 = inl refl
same_num a b = inr (λ e. cc)

same_name : (a b : List ℕ) → OrNot (a ≡ b)
same_name a b = elim (bytes_eq a b) as (λ t. bytes_eq a b ≡ t → OrNot (a ≡ b)) [
  | true ↦ λ same. inl ((bytes_eq-Decides a b).0 same)
  | false ↦ λ differs. inr (λ e. false_true (sym differs ∙ (bytes_eq-Decides a b).1 e))
] refl
  where
    false_true : false ≡ true → ⊥
    false_true e = cc

mutual
  pub same_type : (a b : Ty) → OrNot (a ≡ b)
  same_type (number a) (number b) = elim (same_num a b) [ inl e ↦ inl (ap number e) | inr n ↦ inr (λ e. n (cc)) ]
  same_type (nonzero a) (nonzero b) = elim (same_num a b) [ inl e ↦ inl (ap nonzero e) | inr n ↦ inr (λ e. n (cc)) ]
  same_type range_check range_check = inl refl
  same_type gas_builtin gas_builtin = inl refl
  same_type (box a) (box b) = elim (same_type a b) [ inl e ↦ inl (ap box e) | inr n ↦ inr (λ e. n (cc)) ]
  same_type (array a) (array b) = elim (same_type a b) [ inl e ↦ inl (ap array e) | inr n ↦ inr (λ e. n (cc)) ]
  same_type (snapshot a) (snapshot b) = elim (same_type a b) [ inl e ↦ inl (ap snapshot e) | inr n ↦ inr (λ e. n (cc)) ]
  same_type (struct x a) (struct y b) = elim (same_name x y) [
    | inl p ↦ elim (same_types a b) [ inl e ↦ inl (ap (λ z. struct z a) p ∙ ap (struct y) e) | inr n ↦ inr (λ e. n (cc)) ]
    | inr n ↦ inr (λ e. n (cc))
  ]
  same_type (enum x a) (enum y b) = elim (same_name x y) [
    | inl p ↦ elim (same_types a b) [ inl e ↦ inl (ap (λ z. enum z a) p ∙ ap (enum y) e) | inr n ↦ inr (λ e. n (cc)) ]
    | inr n ↦ inr (λ e. n (cc))
  ]
  same_type (dict a) (dict b) = elim (same_num a b) [ inl e ↦ inl (ap dict e) | inr n ↦ inr (λ e. n (cc)) ]
  same_type (dict_entry a) (dict_entry b) = elim (same_num a b) [ inl e ↦ inl (ap dict_entry e) | inr n ↦ inr (λ e. n (cc)) ]
  same_type (squashed_dict a) (squashed_dict b) = elim (same_num a b) [ inl e ↦ inl (ap squashed_dict e) | inr n ↦ inr (λ e. n (cc)) ]
  same_type (uninitialized a) (uninitialized b) = elim (same_type a b) [ inl e ↦ inl (ap uninitialized e) | inr n ↦ inr (λ e. n (cc)) ]
  same_type a b = inr (λ e. cc)

  pub same_types : (a b : Tys) → OrNot (a ≡ b)
  same_types no_types no_types = inl refl
  same_types (types a as') (types b bs) = elim (same_type a b) [
    | inl p ↦ elim (same_types as' bs) [ inl e ↦ inl (ap (λ z. types z as') p ∙ ap (types b) e) | inr n ↦ inr (λ e. n (cc)) ]
    | inr n ↦ inr (λ e. n (cc))
  ]
  same_types a b = inr (λ e. cc)

-- a type is at one of the first positions, or at none
among_or_not : (view : TypesView) (ty : Ty) (n : ℕ) → ((i : ℕ) × (i < n) × (tree_of view i ≡ ty)) ⊎ ((i : ℕ) → i < n → tree_of view i ≡ ty → ⊥)
among_or_not view ty zero = inr (λ i below e. omega arith)
among_or_not view ty (suc n) = elim (among_or_not view ty n) [
  | inl found ↦ inl (found.0, omega (arith, found.1), found.2)
  | inr none ↦ elim (same_type (tree_of view n) ty) [
    | inl is ↦ inl (n, omega arith, is)
    | inr isnt ↦ inr (λ i below e. last none isnt i below e)
  ]
]
  where
    lt_cases : (i n : ℕ) → i < suc n → (i < n) ⊎ (i ≡ n)
    lt_cases i n below = elim (nat_lt i n) as (λ b. nat_lt i n ≡ b → (i < n) ⊎ (i ≡ n)) [
      | true ↦ λ t. inl (grind (arith, nat_tests))
      | false ↦ λ f. inr (grind (arith, nat_tests))
    ] refl

    last : ((i : ℕ) → i < n → tree_of view i ≡ ty → ⊥) → (tree_of view n ≡ ty → ⊥) → (i : ℕ) → i < suc n → tree_of view i ≡ ty → ⊥
    last none isnt i below e = elim (lt_cases i n below) [ inl less ↦ none i less e | inr same ↦ isnt (subst (λ j. tree_of view j ≡ ty) same e) ]

pub in_table_or_not : (view : TypesView) (ty : Ty) → OrNot (IsInTable view ty)
in_table_or_not view ty = elim (among_or_not view ty (length view.rows)) [
  | inl found ↦ inl (found.0, record { below = found.1; tree = found.2 })
  | inr none ↦ inr (λ has. none has.0 has.1.below has.1.tree)
]

-- the positions of these types, or one isn't in the table
pub trees_or_not : (view : TypesView) (tys : List Ty) → ((ts : List TypeId) × AreTrees view ts tys) ⊎ (All (IsInTable view) tys → ⊥)
trees_or_not view [] = inl ([], tt)
trees_or_not view (ty ∷ tys) = elim (in_table_or_not view ty) [
  | inr none ↦ inr (λ all. none (all 0 ty (omega arith)))
  | inl found ↦ elim (trees_or_not view tys) [
    | inr none ↦ inr (λ all. none (All-tail (IsInTable view) ty tys all))
    | inl rest ↦ inl (record { 0 = found.0 } ∷ rest.0, (found.1, rest.1))
  ]
]

pub branches_or_not : (view : TypesView) (tyss : List (List Ty)) → ((tss : List (List TypeId)) × AllZip (AreTrees view) tss tyss) ⊎ (All (All (IsInTable view)) tyss → ⊥)
branches_or_not view [] = inl ([], tt)
branches_or_not view (tys ∷ tyss) = elim (trees_or_not view tys) [
  | inr none ↦ inr (λ all. none (all 0 tys (omega arith)))
  | inl found ↦ elim (branches_or_not view tyss) [
    | inr none ↦ inr (λ all. none (All-tail (All (IsInTable view)) tys tyss all))
    | inl rest ↦ inl (found.0 ∷ rest.0, (found.1, rest.1))
  ]
]
