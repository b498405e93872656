-- The type that a declaration makes of the types that its arguments name: its parts, its facts, and what is asked of them.
use Rattle.std.proofs.Common.{◌≡◌, ◌↔◌, ℕ, Bool, true, false, not, ◌&&◌, List, [], ◌∷◌, map, Option, Some, None, unwrap_or, refl, ap, sym, subst, ◌∙◌, arith}
use Rattle.std.specs.Prelude.{nat_lt}
use Rattle.std.proofs.lemmas.Bool.{and_parts}
use Rattle.type_trees.specs.Ty.{Ty, number, size, storable, holds_dict, duplicable}
use Rattle.type_table.specs.declared.kind.TypeKind.{TypeKind}
use Rattle.type_table.specs.declared.kind.TypeKind.TheVariants as kinds
use Rattle.type_table.specs.Trees.{kind_of, user_of, listed, parts, IsAllowed, IsElement, HasSnapshots}
use Rattle.type_table.specs.IsType.{most_cells}
use Rattle.type_table.specs.View.{made_of, joined}
use Rattle.type_table.specs.Facts.{facts_of, capped}
use Rattle.type_table.specs.Judging.{facts_given, is_allowed, is_element, has_snapshots}
use Rattle.type_table.proofs.FactLaws.{struct_facts, enum_facts, box_facts, array_facts, snapshot_facts, uninitialized_facts}

-- the kind of type takes such a name behind `ut@` and such type arguments
abbrev pub Takes : TypeKind → Option (List ℕ) → List Ty → Type 0
Takes (kinds.Number num) user tys = (user ≡ None) × (tys ≡ [])
Takes (kinds.NonZero num) user tys = (user ≡ None) × (tys ≡ number num ∷ [])
Takes kinds.RangeCheck user tys = (user ≡ None) × (tys ≡ [])
Takes kinds.GasBuiltin user tys = (user ≡ None) × (tys ≡ [])
Takes kinds.Box user tys = (ty : Ty) × (user ≡ None) × (tys ≡ ty ∷ [])
Takes kinds.Array user tys = (ty : Ty) × (user ≡ None) × (tys ≡ ty ∷ [])
Takes kinds.Snapshot user tys = (ty : Ty) × (user ≡ None) × (tys ≡ ty ∷ [])
Takes kinds.Struct user tys = (name : List ℕ) × (user ≡ Some name)
Takes kinds.Enum user tys = (name : List ℕ) × (user ≡ Some name)
Takes (kinds.Dict num) user tys = (user ≡ None) × (tys ≡ number num ∷ [])
Takes (kinds.DictEntry num) user tys = (user ≡ None) × (tys ≡ number num ∷ [])
Takes (kinds.SquashedDict num) user tys = (user ≡ None) × (tys ≡ number num ∷ [])
Takes kinds.Uninitialized user tys = (ty : Ty) × (user ≡ None) × (tys ≡ ty ∷ [])

abbrev pub made : TypeKind → Option (List ℕ) → List Ty → Ty
made kind user tys = made_of kind (unwrap_or user []) tys

pub listed-joined : (tys : List Ty) → listed (joined tys) ≡ tys
listed-joined [] = refl
listed-joined (ty ∷ tys) = ap (λ l. ty ∷ l) (listed-joined tys)

pub kind_of-made : (kind : TypeKind) (user : Option (List ℕ)) (tys : List Ty) → kind_of (made kind user tys) ≡ kind
kind_of-made (kinds.Number num) user tys = refl
kind_of-made (kinds.NonZero num) user tys = refl
kind_of-made kinds.RangeCheck user tys = refl
kind_of-made kinds.GasBuiltin user tys = refl
kind_of-made kinds.Box user tys = refl
kind_of-made kinds.Array user tys = refl
kind_of-made kinds.Snapshot user tys = refl
kind_of-made kinds.Struct user tys = refl
kind_of-made kinds.Enum user tys = refl
kind_of-made (kinds.Dict num) user tys = refl
kind_of-made (kinds.DictEntry num) user tys = refl
kind_of-made (kinds.SquashedDict num) user tys = refl
kind_of-made kinds.Uninitialized user tys = refl

pub user_of-made : (kind : TypeKind) (user : Option (List ℕ)) (tys : List Ty) → Takes kind user tys → user_of (made kind user tys) ≡ user
user_of-made (kinds.Number num) user tys (no_user, is) = sym no_user
user_of-made (kinds.NonZero num) user tys (no_user, is) = sym no_user
user_of-made kinds.RangeCheck user tys (no_user, is) = sym no_user
user_of-made kinds.GasBuiltin user tys (no_user, is) = sym no_user
user_of-made kinds.Box user tys (ty, no_user, is) = sym no_user
user_of-made kinds.Array user tys (ty, no_user, is) = sym no_user
user_of-made kinds.Snapshot user tys (ty, no_user, is) = sym no_user
user_of-made kinds.Struct user tys (name, has) = ap (λ o. Some (unwrap_or o [])) has ∙ sym has
user_of-made kinds.Enum user tys (name, has) = ap (λ o. Some (unwrap_or o [])) has ∙ sym has
user_of-made (kinds.Dict num) user tys (no_user, is) = sym no_user
user_of-made (kinds.DictEntry num) user tys (no_user, is) = sym no_user
user_of-made (kinds.SquashedDict num) user tys (no_user, is) = sym no_user
user_of-made kinds.Uninitialized user tys (ty, no_user, is) = sym no_user

pub parts-made : (kind : TypeKind) (user : Option (List ℕ)) (tys : List Ty) → Takes kind user tys → parts (made kind user tys) ≡ tys
parts-made (kinds.Number num) user tys (no_user, is) = sym is
parts-made (kinds.NonZero num) user tys (no_user, is) = sym is
parts-made kinds.RangeCheck user tys (no_user, is) = sym is
parts-made kinds.GasBuiltin user tys (no_user, is) = sym is
parts-made kinds.Box user tys (ty, no_user, is) = ap (λ l. parts (made kinds.Box user l)) is ∙ sym is
parts-made kinds.Array user tys (ty, no_user, is) = ap (λ l. parts (made kinds.Array user l)) is ∙ sym is
parts-made kinds.Snapshot user tys (ty, no_user, is) = ap (λ l. parts (made kinds.Snapshot user l)) is ∙ sym is
parts-made kinds.Struct user tys has = listed-joined tys
parts-made kinds.Enum user tys has = listed-joined tys
parts-made (kinds.Dict num) user tys (no_user, is) = sym is
parts-made (kinds.DictEntry num) user tys (no_user, is) = sym is
parts-made (kinds.SquashedDict num) user tys (no_user, is) = sym is
parts-made kinds.Uninitialized user tys (ty, no_user, is) = ap (λ l. parts (made kinds.Uninitialized user l)) is ∙ sym is

pub facts-made : (kind : TypeKind) (user : Option (List ℕ)) (tys : List Ty) → Takes kind user tys → facts_given kind (map facts_of tys) ≡ facts_of (made kind user tys)
facts-made (kinds.Number num) user tys takes = refl
facts-made (kinds.NonZero num) user tys takes = refl
facts-made kinds.RangeCheck user tys takes = refl
facts-made kinds.GasBuiltin user tys takes = refl
facts-made kinds.Box user tys (ty, no_user, is) = subst (λ l. facts_given kinds.Box (map facts_of l) ≡ facts_of (made kinds.Box user l)) (sym is) (box_facts ty)
facts-made kinds.Array user tys (ty, no_user, is) = subst (λ l. facts_given kinds.Array (map facts_of l) ≡ facts_of (made kinds.Array user l)) (sym is) (array_facts ty)
facts-made kinds.Snapshot user tys (ty, no_user, is) = subst (λ l. facts_given kinds.Snapshot (map facts_of l) ≡ facts_of (made kinds.Snapshot user l)) (sym is) (snapshot_facts ty)
facts-made kinds.Struct user tys takes = struct_facts (unwrap_or user []) tys
facts-made kinds.Enum user tys takes = enum_facts (unwrap_or user []) tys
facts-made (kinds.Dict num) user tys takes = refl
facts-made (kinds.DictEntry num) user tys takes = refl
facts-made (kinds.SquashedDict num) user tys takes = refl
facts-made kinds.Uninitialized user tys (ty, no_user, is) = subst (λ l. facts_given kinds.Uninitialized (map facts_of l) ≡ facts_of (made kinds.Uninitialized user l)) (sym is) (uninitialized_facts ty)

element_right : (ty : Ty) → (is_element (facts_of ty) ≡ true) ↔ IsElement ty
element_right ty = (to, from)
  where
    to : is_element (facts_of ty) ≡ true → IsElement ty
    to told =
        let a = and_parts (storable ty) (nat_lt 0 (capped most_cells (size ty)) && not (holds_dict ty)) told in
        let b = and_parts (nat_lt 0 (capped most_cells (size ty))) (not (holds_dict ty)) a.1 in
        record { stored = a.0; takes_cells = grind (arith, b.0); no_dict = not_true (holds_dict ty) b.1 }
      where
        not_true : (b : Bool) → not b ≡ true → b ≡ false
        not_true true e = sym e
        not_true false e = refl

    from : IsElement ty → is_element (facts_of ty) ≡ true
    from e =
        let small : nat_lt 0 (capped most_cells (size ty)) ≡ true = grind (arith, e.takes_cells) in
        ap (λ b. b && (nat_lt 0 (capped most_cells (size ty)) && not (holds_dict ty))) e.stored
        ∙ ap (λ b. b && not (holds_dict ty)) small ∙ ap not e.no_dict

snapshots_right : (ty : Ty) → (has_snapshots (facts_of ty) ≡ true) ↔ HasSnapshots ty
snapshots_right ty = (to, from)
  where
    not_true : (b : Bool) → not b ≡ true → b ≡ false
    not_true true e = sym e
    not_true false e = refl

    to : has_snapshots (facts_of ty) ≡ true → HasSnapshots ty
    to told =
        let a = and_parts (not (duplicable ty)) (storable ty && not (holds_dict ty)) told in
        let b = and_parts (storable ty) (not (holds_dict ty)) a.1 in
        record { no_duplicates = not_true (duplicable ty) a.0; stored = b.0; no_dict = not_true (holds_dict ty) b.1 }

    from : HasSnapshots ty → has_snapshots (facts_of ty) ≡ true
    from h =
        ap (λ b. not b && (storable ty && not (holds_dict ty))) h.no_duplicates
        ∙ ap (λ b. b && not (holds_dict ty)) h.stored ∙ ap not h.no_dict

pub allowed-made : (kind : TypeKind) (user : Option (List ℕ)) (tys : List Ty) → Takes kind user tys → (is_allowed kind (map facts_of tys) ≡ true) ↔ IsAllowed (made kind user tys)
allowed-made (kinds.Number num) user tys takes = ((λ e. tt), λ u. refl)
allowed-made (kinds.NonZero num) user tys takes = ((λ e. tt), λ u. refl)
allowed-made kinds.RangeCheck user tys takes = ((λ e. tt), λ u. refl)
allowed-made kinds.GasBuiltin user tys takes = ((λ e. tt), λ u. refl)
allowed-made kinds.Box user tys (ty, no_user, is) = subst (λ l. (is_allowed kinds.Box (map facts_of l) ≡ true) ↔ IsAllowed (made kinds.Box user l)) (sym is) (element_right ty)
allowed-made kinds.Array user tys (ty, no_user, is) = subst (λ l. (is_allowed kinds.Array (map facts_of l) ≡ true) ↔ IsAllowed (made kinds.Array user l)) (sym is) (element_right ty)
allowed-made kinds.Snapshot user tys (ty, no_user, is) = subst (λ l. (is_allowed kinds.Snapshot (map facts_of l) ≡ true) ↔ IsAllowed (made kinds.Snapshot user l)) (sym is) (snapshots_right ty)
allowed-made kinds.Struct user tys takes = ((λ e. tt), λ u. refl)
allowed-made kinds.Enum user tys takes = ((λ e. tt), λ u. refl)
allowed-made (kinds.Dict num) user tys takes = ((λ e. tt), λ u. refl)
allowed-made (kinds.DictEntry num) user tys takes = ((λ e. tt), λ u. refl)
allowed-made (kinds.SquashedDict num) user tys takes = ((λ e. tt), λ u. refl)
allowed-made kinds.Uninitialized user tys (ty, no_user, is) = subst (λ l. (is_allowed kinds.Uninitialized (map facts_of l) ≡ true) ↔ IsAllowed (made kinds.Uninitialized user l)) (sym is) ((λ e. e), λ e. e)
