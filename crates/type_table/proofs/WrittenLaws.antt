-- Declarations are compared as they are written.
use Rattle.std.proofs.Common.{◌≡◌, ◌↔◌, ℕ, Bool, true, false, true≢false, ◌&&◌, ◌||◌, List, [], ◌∷◌, ◌++◌, if◌then◌else◌, map, Option, Some, None, option_map, Vec, Global, refl, ap, sym, subst, ◌∙◌}
use Rattle.std.specs.Option.{option_eq}
use Rattle.std.specs.Prelude.{bytes_eq}
use Rattle.std.specs.List.{list_any}
use Rattle.std.proofs.lemmas.Bool.{and_parts}
use Rattle.std.proofs.lemmas.List.{map-append}
use Rattle.std.proofs.lemmas.Slice.Eq.{bytes_eq-Decides}
use Rattle.type_trees.specs.declared.num.Num.{Num}
use Rattle.type_trees.specs.declared.num.Num.TheVariants as nums
use Rattle.type_table.specs.contracts.kind.TypeKindPartialEq.TheImpl as kind_impl
use Rattle.type_table.specs.contracts.written.WrittenPartialEq.TheImpl as written_impl
use Rattle.type_table.specs.declared.kind.TypeKind.{TypeKind}
use Rattle.type_table.specs.declared.kind.TypeKind.TheVariants as kinds
use Rattle.type_table.specs.declared.written.Written.{Written}
use Rattle.type_table.specs.Lookups.{same_num}
use Rattle.type_table.specs.Written.{WrittenView, written_view, same_kind, same_user, same_written, has_written}
use Rattle.type_table.proofs.LookupLaws.{same_num-derived}

same_kind-derived : (a b : TypeKind) → kind_impl.eq-value.it a b ≡ same_kind a b
same_kind-derived (kinds.Number a) (kinds.Number b) = same_num-derived a b
same_kind-derived (kinds.NonZero a) (kinds.NonZero b) = same_num-derived a b
same_kind-derived kinds.RangeCheck kinds.RangeCheck = refl
same_kind-derived kinds.GasBuiltin kinds.GasBuiltin = refl
same_kind-derived kinds.Box kinds.Box = refl
same_kind-derived kinds.Array kinds.Array = refl
same_kind-derived kinds.Snapshot kinds.Snapshot = refl
same_kind-derived kinds.Struct kinds.Struct = refl
same_kind-derived kinds.Enum kinds.Enum = refl
same_kind-derived (kinds.Dict a) (kinds.Dict b) = same_num-derived a b
same_kind-derived (kinds.DictEntry a) (kinds.DictEntry b) = same_num-derived a b
same_kind-derived (kinds.SquashedDict a) (kinds.SquashedDict b) = same_num-derived a b
same_kind-derived kinds.Uninitialized kinds.Uninitialized = refl
same_kind-derived _ _ = refl

user_derived : (a b : Option (Vec ℕ Global)) → option_eq (λ x y. bytes_eq x.items y.items) a b ≡ same_user (option_map (λ v. v.items) a) (option_map (λ v. v.items) b)
user_derived None None = refl
user_derived None (Some y) = refl
user_derived (Some x) None = refl
user_derived (Some x) (Some y) = refl

pub same_written-derived : (a b : Written) → written_impl.eq-value.it a b ≡ same_written (written_view a) (written_view b)
same_written-derived a b = λ i. same_kind-derived a.kind b.kind i && (user_derived a.user b.user i && bytes_eq a.targets.items b.targets.items)

-- ---- what is the same is one

num_is : (a b : Num) → same_num a b ≡ true → a ≡ b
num_is nums.Felt64 nums.Felt64 told = refl
num_is nums.U8 nums.U8 told = refl
num_is nums.U16 nums.U16 told = refl
num_is nums.U32 nums.U32 told = refl
num_is _ _ told = absurd (true≢false (sym told))

kind_is : (a b : TypeKind) → same_kind a b ≡ true → a ≡ b
kind_is (kinds.Number a) (kinds.Number b) told = ap (λ n. kinds.Number n) (num_is a b told)
kind_is (kinds.NonZero a) (kinds.NonZero b) told = ap (λ n. kinds.NonZero n) (num_is a b told)
kind_is kinds.RangeCheck kinds.RangeCheck told = refl
kind_is kinds.GasBuiltin kinds.GasBuiltin told = refl
kind_is kinds.Box kinds.Box told = refl
kind_is kinds.Array kinds.Array told = refl
kind_is kinds.Snapshot kinds.Snapshot told = refl
kind_is kinds.Struct kinds.Struct told = refl
kind_is kinds.Enum kinds.Enum told = refl
kind_is (kinds.Dict a) (kinds.Dict b) told = ap (λ n. kinds.Dict n) (num_is a b told)
kind_is (kinds.DictEntry a) (kinds.DictEntry b) told = ap (λ n. kinds.DictEntry n) (num_is a b told)
kind_is (kinds.SquashedDict a) (kinds.SquashedDict b) told = ap (λ n. kinds.SquashedDict n) (num_is a b told)
kind_is kinds.Uninitialized kinds.Uninitialized told = refl
kind_is _ _ told = absurd (true≢false (sym told))

user_is : (a b : Option (List ℕ)) → same_user a b ≡ true → a ≡ b
user_is None None told = refl
user_is (Some a) (Some b) told = ap Some ((bytes_eq-Decides a b).0 told)
user_is _ _ told = absurd (true≢false (sym told))

num_self : (a : Num) → same_num a a ≡ true
num_self nums.Felt64 = refl
num_self nums.U8 = refl
num_self nums.U16 = refl
num_self nums.U32 = refl

kind_self : (a : TypeKind) → same_kind a a ≡ true
kind_self (kinds.Number a) = num_self a
kind_self (kinds.NonZero a) = num_self a
kind_self kinds.RangeCheck = refl
kind_self kinds.GasBuiltin = refl
kind_self kinds.Box = refl
kind_self kinds.Array = refl
kind_self kinds.Snapshot = refl
kind_self kinds.Struct = refl
kind_self kinds.Enum = refl
kind_self (kinds.Dict a) = num_self a
kind_self (kinds.DictEntry a) = num_self a
kind_self (kinds.SquashedDict a) = num_self a
kind_self kinds.Uninitialized = refl

user_self : (a : Option (List ℕ)) → same_user a a ≡ true
user_self None = refl
user_self (Some a) = (bytes_eq-Decides a a).1 refl

pub written_is : (a b : WrittenView) → (same_written a b ≡ true) ↔ (a ≡ b)
written_is a b = (to, from)
  where
    to : same_written a b ≡ true → a ≡ b
    to told =
        let first = and_parts (same_kind a.kind b.kind) (same_user a.user b.user && bytes_eq a.targets b.targets) told in
        let second = and_parts (same_user a.user b.user) (bytes_eq a.targets b.targets) first.1 in
        let k = kind_is a.kind b.kind first.0 in
        let u = user_is a.user b.user second.0 in
        let t = (bytes_eq-Decides a.targets b.targets).0 second.1 in
        λ i. record { kind = k i; user = u i; targets = t i }

    from : a ≡ b → same_written a b ≡ true
    from same = subst (λ c. same_written a c ≡ true) same (
        ap (λ x. x && (same_user a.user a.user && bytes_eq a.targets a.targets)) (kind_self a.kind)
        ∙ ap (λ x. x && bytes_eq a.targets a.targets) (user_self a.user) ∙ (bytes_eq-Decides a.targets a.targets).1 refl)

-- ---- the set's keys

pub has_keys : (keys : List Written) (w : Written) → list_any (written_impl.eq-value.it w) keys ≡ has_written (map written_view keys) (written_view w)
has_keys [] w = refl
has_keys (k ∷ keys) w = λ i. same_written-derived w k i || has_keys keys w i

pub keys_after : (keys : List Written) (w : Written)
    → map written_view (if list_any (written_impl.eq-value.it w) keys then keys else keys ++ w ∷ [])
    ≡ (if has_written (map written_view keys) (written_view w) then map written_view keys else map written_view keys ++ written_view w ∷ [])
keys_after keys w = by (list_any (written_impl.eq-value.it w) keys) (has_keys keys w)
  where
    by : (b : Bool) → b ≡ has_written (map written_view keys) (written_view w)
        → map written_view (if b then keys else keys ++ w ∷ []) ≡ (if has_written (map written_view keys) (written_view w) then map written_view keys else map written_view keys ++ written_view w ∷ [])
    by true told = ap (λ b. if b then map written_view keys else map written_view keys ++ written_view w ∷ []) told
    by false told = map-append written_view keys (w ∷ []) ∙ ap (λ b. if b then map written_view keys else map written_view keys ++ written_view w ∷ []) told
