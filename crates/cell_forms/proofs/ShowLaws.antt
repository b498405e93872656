-- What is shown of cells is what stands there, and nothing stands where nothing is shown.
use Rattle.std.proofs.Common.{◌≡◌, ℕ, zero, suc, ◌-◌, ◌<◌, ◌≤◌, Bool, true, false, true≢false, ◌&&◌, ◌||◌, IsTrue, cond, nat_lt, List, [], ◌∷◌, map, take, drop, length, Option, Some, None, is_some, unwrap_or, option_map, slice_get, refl, sym, ap, ◌∙◌, subst, arith, length-take, length-drop}
use Rattle.std.proofs.lemmas.Bool.{lt-ltb, ltb-true}
use Rattle.std.proofs.lemmas.List.{take-map, drop-map, length-map}
use Rattle.std.specs.List.{AllByRecursion}
use Rattle.ro_machine.specs.Readings.{Readings}
use Rattle.type_trees.specs.Ty.{Ty, Tys, number, nonzero, range_check, gas_builtin, box, array, snapshot, struct, enum, dict, dict_entry, squashed_dict, uninitialized, no_types, types, size, size_together, greatest_size, is_plain, all_plain, holds_array, any_holds_array}
use Rattle.type_trees.specs.declared.num.Num.{Num}
use Rattle.value_trees.specs.Of.{bound}
use Rattle.value_trees.specs.Val.{Plain, vals_of}
use Rattle.value_trees.specs.Val as val
use Rattle.cell_forms.specs.Showing.{number_in, shown, shown_together, shown_variant, first_shown, struct_shown}
use Rattle.cell_forms.specs.Stands.{StandTogether, StandsVariant}
use Rattle.cell_forms.specs.Standing.{PlainStands, Asked, any}

some_is : {X : Type 0} (x y : X) → Some x ≡ Some y → x ≡ y
some_is x y h = ap (λ o. unwrap_or o x) h

pub both : (a b : Bool) → IsTrue (a && b) → IsTrue a × IsTrue b
both true b h = (refl, h)
both false b h = absurd (true≢false (sym h))

pub neither : (a b : Bool) → (a || b) ≡ false → (a ≡ false) × (b ≡ false)
neither true b h = absurd (true≢false h)
neither false b h = (refl, h)

-- nothing is asked of the padding of any run
nothing_asked : (cells : Readings) → AllByRecursion (Asked any) cells
nothing_asked [] = tt
nothing_asked (o ∷ cells) = (tt, nothing_asked cells)

-- ---- options taken apart

struct_of : (o : Option (List Plain)) (v : Plain) → struct_shown o ≡ Some v → (vs : List Plain) × (o ≡ Some vs) × (v ≡ val.struct (vals_of vs))
struct_of None v h = absurd (true≢false (sym (ap is_some h)))
struct_of (Some vs) v h = (vs, refl, sym (some_is (val.struct (vals_of vs)) v h))

enum_of : (index : ℕ) (o : Option Plain) (v : Plain) → option_map (val.enum index) o ≡ Some v → (payload : Plain) × (o ≡ Some payload) × (v ≡ val.enum index payload)
enum_of index None v h = absurd (true≢false (sym (ap is_some h)))
enum_of index (Some payload) v h = (payload, refl, sym (some_is (val.enum index payload) v h))

first_of : (o : Option Plain) (p : Option (List Plain)) (vs : List Plain) → first_shown o p ≡ Some vs
    → (v : Plain) × (rest : List Plain) × (vs ≡ v ∷ rest) × (o ≡ Some v) × (p ≡ Some rest)
first_of None p vs h = absurd (true≢false (sym (ap is_some h)))
first_of (Some v) None vs h = absurd (true≢false (sym (ap is_some h)))
first_of (Some v) (Some rest) vs h = (v, rest, sym (some_is (v ∷ rest) vs h), refl, refl)

module _ (m : ℕ → Option ℕ) where
  abbrev Together : Tys → Readings → List Plain → Type 0
  Together tys cells vs = StandTogether (Asked any) (λ k cells d. ⊥) (λ k cells e. ⊥) m tys cells vs

  abbrev Variant : Tys → ℕ → Readings → Plain → Type 0
  Variant tys index cells v = StandsVariant (Asked any) (λ k cells d. ⊥) (λ k cells e. ⊥) m tys index cells v

  number_sound : (k : Num) (cells : List ℕ) (v : Plain) → number_in k cells ≡ Some v → PlainStands any m (number k) (map (λ n. Some n) cells) v
  unfolding number_in
  number_sound k [] v h = absurd (true≢false (sym (ap is_some h)))
  number_sound k (n ∷ []) v h = go (nat_lt n (bound k)) refl h
    where
      go : (b : Bool) → nat_lt n (bound k) ≡ b → cond b (Some (val.number k n)) None ≡ Some v → PlainStands any m (number k) (Some n ∷ []) v
      go true is h = (n, refl, (sym (some_is (val.number k n) v h), ltb-true n (bound k) is))
      go false is h = absurd (true≢false (sym (ap is_some h)))
  number_sound k (n ∷ o ∷ cells) v h = absurd (true≢false (sym (ap is_some h)))

  mutual
    unfolding shown shown_together shown_variant

    pub shown_sound : (ty : Ty) → IsTrue (is_plain ty) → holds_array ty ≡ false → (cells : List ℕ) → length cells ≡ size ty → (v : Plain) → shown ty cells ≡ Some v → PlainStands any m ty (map (λ n. Some n) cells) v
    shown_sound (number k) plain flat cells long v h = number_sound k cells v h
    shown_sound (struct name tys) plain flat cells long v h =
        let (vs, shows, is) = struct_of (shown_together tys cells) v h in
        (vs, is, together_sound tys plain flat cells long vs shows)
    shown_sound (enum name tys) plain flat [] long v h = absurd (true≢false (sym (ap is_some h)))
    shown_sound (enum name tys) plain flat (index ∷ cells) long v h =
        let (payload, shows, is) = enum_of index (shown_variant tys index cells) v h in
        (index, payload, is, length-map (index ∷ cells) (λ n. Some n) ∙ long, refl, variant_sound tys plain flat index cells (omega (arith, long)) payload shows)
    shown_sound (nonzero k) plain flat cells long v h = absurd (true≢false (sym plain))
    shown_sound range_check plain flat cells long v h = absurd (true≢false (sym plain))
    shown_sound gas_builtin plain flat cells long v h = absurd (true≢false (sym plain))
    shown_sound (box ty) plain flat cells long v h = absurd (true≢false (sym plain))
    shown_sound (array ty) plain flat cells long v h = absurd (true≢false flat)
    shown_sound (snapshot ty) plain flat cells long v h = absurd (true≢false (sym plain))
    shown_sound (dict k) plain flat cells long v h = absurd (true≢false (sym plain))
    shown_sound (dict_entry k) plain flat cells long v h = absurd (true≢false (sym plain))
    shown_sound (squashed_dict k) plain flat cells long v h = absurd (true≢false (sym plain))
    shown_sound (uninitialized ty) plain flat cells long v h = absurd (true≢false (sym plain))

    together_sound : (tys : Tys) → IsTrue (all_plain tys) → any_holds_array tys ≡ false → (cells : List ℕ) → length cells ≡ size_together tys → (vs : List Plain) → shown_together tys cells ≡ Some vs
        → Together tys (map (λ n. Some n) cells) vs
    together_sound no_types plain flat [] long vs h = (refl, sym (some_is [] vs h))
    together_sound no_types plain flat (n ∷ cells) long vs h = absurd (true≢false (sym (ap is_some h)))
    together_sound (types ty tys) plain flat cells long vs h =
        let (v, rest, is, first, others) = first_of (shown ty (take (size ty) cells)) (shown_together tys (drop (size ty) cells)) vs h in
        let (one, all) = both (is_plain ty) (all_plain tys) plain in
        let (one_flat, all_flat) = neither (holds_array ty) (any_holds_array tys) flat in
        let front = length-take (size ty) cells in
        let behind = length-drop (size ty) cells in
        let stands = shown_sound ty one one_flat (take (size ty) cells) (omega (arith, front, long)) v first in
        let stand = together_sound tys all all_flat (drop (size ty) cells) (omega (arith, behind, long)) rest others in (
          v,
          rest,
          is,
          subst (λ cs. PlainStands any m ty cs v) (sym (take-map (λ n. Some n) (size ty) cells)) stands,
          subst (λ cs. Together tys cs rest) (sym (drop-map (λ n. Some n) (size ty) cells)) stand,
        )

    variant_sound : (tys : Tys) → IsTrue (all_plain tys) → any_holds_array tys ≡ false → (index : ℕ) (cells : List ℕ) → greatest_size tys ≤ length cells → (v : Plain) → shown_variant tys index cells ≡ Some v
        → Variant tys index (map (λ n. Some n) cells) v
    variant_sound no_types plain flat index cells long v h = absurd (true≢false (sym (ap is_some h)))
    variant_sound (types ty tys) plain flat zero cells long v h =
        let (one, all) = both (is_plain ty) (all_plain tys) plain in
        let (one_flat, all_flat) = neither (holds_array ty) (any_holds_array tys) flat in
        let behind = length-drop (length cells - size ty) cells in
        let stands = shown_sound ty one one_flat (drop (length cells - size ty) cells) (omega (arith, behind, long)) v h in
        let same = ap (λ n. drop (n - size ty) (map (λ n. Some n) cells)) (length-map cells (λ n. Some n)) ∙ drop-map (λ n. Some n) (length cells - size ty) cells in
        (nothing_asked _, subst (λ cs. PlainStands any m ty cs v) (sym same) stands)
    variant_sound (types ty tys) plain flat (suc index) cells long v h =
        variant_sound tys (both (is_plain ty) (all_plain tys) plain).1 (neither (holds_array ty) (any_holds_array tys) flat).1 index cells (omega (arith, long)) v h

  -- the word of a list of one
  word_is : (n k : ℕ) (rest cells : Readings) → Some n ∷ rest ≡ Some k ∷ cells → n ≡ k
  word_is n k rest cells h = ap (λ l. unwrap_or (unwrap_or (slice_get l 0) None) n) h

  number_complete : (k : Num) (cells : List ℕ) (v : Plain) → PlainStands any m (number k) (map (λ n. Some n) cells) v → number_in k cells ≡ Some v
  unfolding number_in
  number_complete k [] v h = absurd (no_cells h.0 h.1)
    where
      no_cells : (n : ℕ) → [] ≡ Some n ∷ [] → ⊥
      no_cells n h = let long = ap length h in omega (arith, long)
  number_complete k (n ∷ []) v h =
      let same : n ≡ h.0 = word_is n h.0 [] [] h.1 in
      ap (λ b. cond b (Some (val.number k n)) None) (lt-ltb n (bound k) (subst (λ w. w < bound k) (sym same) h.2.1))
      ∙ ap (λ w. Some (val.number k w)) same ∙ ap Some (sym h.2.0)
  number_complete k (n ∷ o ∷ cells) v h = absurd (no_more h.0 h.1)
    where
      no_more : (w : ℕ) → Some n ∷ Some o ∷ map (λ n. Some n) cells ≡ Some w ∷ [] → ⊥
      no_more w h = let long = ap length h in omega (arith, long)

  mutual
    unfolding shown shown_together shown_variant

    pub shown_complete : (ty : Ty) → IsTrue (is_plain ty) → holds_array ty ≡ false → (cells : List ℕ) (v : Plain) → PlainStands any m ty (map (λ n. Some n) cells) v → shown ty cells ≡ Some v
    shown_complete (number k) plain flat cells v h = number_complete k cells v h
    shown_complete (struct name tys) plain flat cells v h = ap struct_shown (together_complete tys plain flat cells h.0 h.2) ∙ ap Some (sym h.1)
    shown_complete (enum name tys) plain flat [] v h = absurd (let long = h.3 in omega (arith, long))
    shown_complete (enum name tys) plain flat (index ∷ cells) v h =
        let same : index ≡ h.0 = word_is index h.0 [] [] h.4 in
        ap (λ n. option_map (val.enum n) (shown_variant tys n cells)) same
        ∙ ap (option_map (val.enum h.0)) (variant_complete tys plain flat h.0 cells h.1 h.5) ∙ ap Some (sym h.2)
    shown_complete (nonzero k) plain flat cells v h = absurd (true≢false (sym plain))
    shown_complete range_check plain flat cells v h = absurd (true≢false (sym plain))
    shown_complete gas_builtin plain flat cells v h = absurd (true≢false (sym plain))
    shown_complete (box ty) plain flat cells v h = absurd (true≢false (sym plain))
    shown_complete (array ty) plain flat cells v h = absurd (true≢false flat)
    shown_complete (snapshot ty) plain flat cells v h = absurd (true≢false (sym plain))
    shown_complete (dict k) plain flat cells v h = absurd (true≢false (sym plain))
    shown_complete (dict_entry k) plain flat cells v h = absurd (true≢false (sym plain))
    shown_complete (squashed_dict k) plain flat cells v h = absurd (true≢false (sym plain))
    shown_complete (uninitialized ty) plain flat cells v h = absurd (true≢false (sym plain))

    together_complete : (tys : Tys) → IsTrue (all_plain tys) → any_holds_array tys ≡ false → (cells : List ℕ) (vs : List Plain) → Together tys (map (λ n. Some n) cells) vs → shown_together tys cells ≡ Some vs
    together_complete no_types plain flat [] vs h = ap Some (sym h.1)
    together_complete no_types plain flat (n ∷ cells) vs h = absurd (let long = ap length h.0 in omega (arith, long))
    together_complete (types ty tys) plain flat cells vs h =
        let (one, all) = both (is_plain ty) (all_plain tys) plain in
        let (one_flat, all_flat) = neither (holds_array ty) (any_holds_array tys) flat in
        let first = shown_complete ty one one_flat (take (size ty) cells) h.0 (subst (λ cs. PlainStands any m ty cs h.0) (take-map (λ n. Some n) (size ty) cells) h.3) in
        let others = together_complete tys all all_flat (drop (size ty) cells) h.1 (subst (λ cs. Together tys cs h.1) (drop-map (λ n. Some n) (size ty) cells) h.4) in
        ap (λ o. first_shown o (shown_together tys (drop (size ty) cells))) first ∙ ap (first_shown (Some h.0)) others ∙ ap Some (sym h.2)

    variant_complete : (tys : Tys) → IsTrue (all_plain tys) → any_holds_array tys ≡ false → (index : ℕ) (cells : List ℕ) (v : Plain) → Variant tys index (map (λ n. Some n) cells) v → shown_variant tys index cells ≡ Some v
    variant_complete no_types plain flat index cells v h = absurd h
    variant_complete (types ty tys) plain flat zero cells v h =
        let (one, all) = both (is_plain ty) (all_plain tys) plain in
        let (one_flat, all_flat) = neither (holds_array ty) (any_holds_array tys) flat in
        let same = ap (λ n. drop (n - size ty) (map (λ n. Some n) cells)) (length-map cells (λ n. Some n)) ∙ drop-map (λ n. Some n) (length cells - size ty) cells in
        shown_complete ty one one_flat (drop (length cells - size ty) cells) v (subst (λ cs. PlainStands any m ty cs v) same h.1)
    variant_complete (types ty tys) plain flat (suc index) cells v h =
        variant_complete tys (both (is_plain ty) (all_plain tys) plain).1 (neither (holds_array ty) (any_holds_array tys) flat).1 index cells v h

  -- where nothing is shown no value stands
  pub none_stands : (ty : Ty) → IsTrue (is_plain ty) → holds_array ty ≡ false → (cells : List ℕ) → shown ty cells ≡ None → (v : Plain) → PlainStands any m ty (map (λ n. Some n) cells) v → ⊥
  none_stands ty plain flat cells none v h = true≢false (sym (ap is_some (sym none ∙ shown_complete ty plain flat cells v h)))
