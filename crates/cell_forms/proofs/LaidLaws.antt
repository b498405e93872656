-- What is laid as a value's words is where the value stands.
use Rattle.std.proofs.Common.{◌≡◌, ℕ, zero, suc, ◌+◌, ◌-◌, ◌≤◌, false, true≢false, IsTrue, List, [], ◌∷◌, ◌++◌, map, take, drop, length, replicate, Option, Some, slice_get, refl, sym, ap, ◌∙◌, subst, arith, length-append}
use Rattle.std.proofs.lemmas.List.{length-map}
use Rattle.std.specs.List.{All, AllByRecursion}
use Rattle.std.specs.Option.{option_map_or}
use Rattle.ro_machine.specs.Readings.{Readings}
use Rattle.type_table.specs.Trees.{listed}
use Rattle.type_table.specs.View.{RowView, tree_at, trees_at}
use Rattle.type_table.specs.declared.type_id.TypeId.{TypeId}
use Rattle.type_trees.specs.Ty.{Ty, Tys, number, nonzero, range_check, gas_builtin, box, array, snapshot, struct, enum, dict, dict_entry, squashed_dict, uninitialized, no_types, types, size, greatest_size, is_plain, all_plain, holds_array, any_holds_array}
use Rattle.value_trees.specs.Of.{AreWords, IsOpenMap, IsOf, AreOf, IsOfVariant, AllOf}
use Rattle.value_trees.specs.Val.{Plain, vals_of}
use Rattle.cell_forms.specs.Laying.{laid, laid_each}
use Rattle.cell_forms.specs.Stands.{StandTogether, StandsVariant}
use Rattle.cell_forms.specs.Standing.{PlainStands, AllPlainStand, Asked, zeros}
use Rattle.cell_forms.proofs.ShowLaws.{both, neither}
use Rattle.cell_forms.proofs.Sizes.{stands_long}

abbrev read : List ℕ → Readings
read ws = map (λ n. Some n) ws

-- ---- lists side by side

front : (xs ys : List ℕ) → take (length xs) (read (xs ++ ys)) ≡ read xs
front [] ys = refl
front (x ∷ xs) ys = ap (λ l. Some x ∷ l) (front xs ys)

behind : (xs ys : List ℕ) → drop (length xs) (read (xs ++ ys)) ≡ read ys
behind [] ys = refl
behind (x ∷ xs) ys = behind xs ys

zeros_long : (k : ℕ) → length {A = ℕ} (replicate k 0) ≡ k
zeros_long zero = refl
zeros_long (suc k) = ap suc (zeros_long k)

zeros_asked : (k : ℕ) → AllByRecursion (Asked zeros) (read (replicate k 0))
zeros_asked zero = tt
zeros_asked (suc k) = (refl, zeros_asked k)

module _ (m : ℕ → Option ℕ) where
  abbrev Together : Tys → Readings → List Plain → Type 0
  Together tys cells vs = StandTogether (Asked zeros) (λ k cells d. ⊥) (λ k cells e. ⊥) m tys cells vs

  abbrev Variant : Tys → ℕ → Readings → Plain → Type 0
  Variant tys index cells v = StandsVariant (Asked zeros) (λ k cells d. ⊥) (λ k cells e. ⊥) m tys index cells v

  -- a value takes as many words as its type has cells
  words_long : (ty : Ty) (ws : List ℕ) (v : Plain) → PlainStands zeros m ty (read ws) v → length ws ≡ size ty
  words_long ty ws v h =
      sym (length-map ws (λ n. Some n))
      ∙ stands_long (Asked zeros) (λ k cells d. ⊥) (λ k cells e. ⊥) m (λ k cells d h. absurd h) (λ k cells e h. absurd h) ty (read ws) v h

  -- the words of the variant with this index, which with a selector of one word are so many
  abbrev variant_words : ℕ → List Ty → ℕ → Plain → List ℕ
  variant_words whole tys index v = option_map_or (λ ty. replicate (whole - (1 + size ty)) 0 ++ laid v ty) (slice_get tys index) []

  padded : (whole : ℕ) (ty : Ty) (v : Plain) (tys : Tys) (ws : List ℕ) → 1 + size ty ≤ whole → PlainStands zeros m ty (read ws) v
      → (1 + length (replicate {A = ℕ} (whole - (1 + size ty)) 0 ++ ws) ≡ whole) × Variant (types ty tys) 0 (read (replicate (whole - (1 + size ty)) 0 ++ ws)) v
  padded whole ty v tys ws fits stands =
      let pad : List ℕ = replicate (whole - (1 + size ty)) 0 in
      let pad_long : length pad ≡ whole - (1 + size ty) = zeros_long (whole - (1 + size ty)) in
      let ws_long : length ws ≡ size ty = words_long ty ws v stands in
      let both_long : length (pad ++ ws) ≡ length pad + length ws = length-append pad ws in
      let cells_long : length (read (pad ++ ws)) ≡ length (pad ++ ws) = length-map (pad ++ ws) (λ n. Some n) in
      let at : length pad ≡ length (read (pad ++ ws)) - size ty = omega (arith, pad_long, ws_long, both_long, cells_long, fits) in (
        omega (arith, pad_long, ws_long, both_long, fits),
        (
          subst (AllByRecursion (Asked zeros)) (sym (front pad ws) ∙ ap (λ n. take n (read (pad ++ ws))) at) (zeros_asked (whole - (1 + size ty))),
          subst (λ cs. PlainStands zeros m ty cs v) (sym (behind pad ws) ∙ ap (λ n. drop n (read (pad ++ ws))) at) stands,
        ),
      )

  mutual
    unfolding laid laid_each

    pub laid_stands : (ty : Ty) → IsTrue (is_plain ty) → holds_array ty ≡ false → (v : Plain) → IsOf AreWords IsOpenMap ty v → PlainStands zeros m ty (read (laid v ty)) v
    laid_stands (number k) plain flat v h = (h.0, ap (λ w. read (laid w (number k))) h.1, (h.1, h.2))
    laid_stands (struct name tys) plain flat v h =
        (h.0, h.1, subst (λ w. Together tys (read (laid w (struct name tys))) h.0) (sym h.1) (laid_together tys plain flat h.0 h.2))
    laid_stands (enum name tys) plain flat v h =
        let ws : List ℕ = variant_words (1 + greatest_size tys) (listed tys) h.0 h.1 in
        let (long, stands) = laid_variant (1 + greatest_size tys) tys plain flat h.0 h.1 (omega arith) h.3 in
        let cells_long : length (read ws) ≡ length ws = length-map ws (λ n. Some n) in
        subst (λ w. PlainStands zeros m (enum name tys) (read (laid w (enum name tys))) w) (sym h.2)
        (h.0, h.1, refl, omega (arith, cells_long, long), refl, stands)
    laid_stands (nonzero k) plain flat v h = absurd (true≢false (sym plain))
    laid_stands range_check plain flat v h = absurd (true≢false (sym plain))
    laid_stands gas_builtin plain flat v h = absurd (true≢false (sym plain))
    laid_stands (box ty) plain flat v h = absurd (true≢false (sym plain))
    laid_stands (array ty) plain flat v h = absurd (true≢false flat)
    laid_stands (snapshot ty) plain flat v h = absurd (true≢false (sym plain))
    laid_stands (dict k) plain flat v h = absurd (true≢false (sym plain))
    laid_stands (dict_entry k) plain flat v h = absurd (true≢false (sym plain))
    laid_stands (squashed_dict k) plain flat v h = absurd (true≢false (sym plain))
    laid_stands (uninitialized ty) plain flat v h = absurd (true≢false (sym plain))

    laid_together : (tys : Tys) → IsTrue (all_plain tys) → any_holds_array tys ≡ false → (vs : List Plain) → AreOf AreWords IsOpenMap tys vs → Together tys (read (laid_each (vals_of vs) (listed tys))) vs
    laid_together no_types plain flat vs h = (ap (λ us. read (laid_each (vals_of us) [])) h, h)
    laid_together (types ty tys) plain flat vs h =
        let (one, all) = both (is_plain ty) (all_plain tys) plain in
        let (one_flat, all_flat) = neither (holds_array ty) (any_holds_array tys) flat in
        let first = laid_stands ty one one_flat h.0 h.3 in
        let others = laid_together tys all all_flat h.1 h.4 in
        let rest = laid_each (vals_of h.1) (listed tys) in
        let at : length (laid h.0 ty) ≡ size ty = words_long ty (laid h.0 ty) h.0 first in
        subst (λ us. Together (types ty tys) (read (laid_each (vals_of us) (ty ∷ listed tys))) us) (sym h.2) (
          h.0,
          h.1,
          refl,
          subst (λ cs. PlainStands zeros m ty cs h.0) (sym (front (laid h.0 ty) rest) ∙ ap (λ n. take n (read (laid h.0 ty ++ rest))) at) first,
          subst (λ cs. Together tys cs h.1) (sym (behind (laid h.0 ty) rest) ∙ ap (λ n. drop n (read (laid h.0 ty ++ rest))) at) others,
        )

    laid_variant : (whole : ℕ) (tys : Tys) → IsTrue (all_plain tys) → any_holds_array tys ≡ false → (index : ℕ) (v : Plain) → 1 + greatest_size tys ≤ whole → IsOfVariant AreWords IsOpenMap tys index v
        → (1 + length (variant_words whole (listed tys) index v) ≡ whole) × Variant tys index (read (variant_words whole (listed tys) index v)) v
    laid_variant whole no_types plain flat index v fits h = absurd h
    laid_variant whole (types ty tys) plain flat zero v fits h =
        let (one, all) = both (is_plain ty) (all_plain tys) plain in
        let (one_flat, all_flat) = neither (holds_array ty) (any_holds_array tys) flat in
        padded whole ty v tys (laid v ty) (omega (arith, fits)) (laid_stands ty one one_flat v h)
    laid_variant whole (types ty tys) plain flat (suc index) v fits h =
        laid_variant whole tys (both (is_plain ty) (all_plain tys) plain).1 (neither (holds_array ty) (any_holds_array tys) flat).1 index v (omega (arith, fits)) h

  -- values of the types of a table, one after another
  pub all_laid : (rows : List RowView) (ids : List TypeId) → All (λ a. IsTrue (is_plain (tree_at rows a.0))) ids → All (λ a. holds_array (tree_at rows a.0) ≡ false) ids
      → (vs : List Plain) → AllOf AreWords IsOpenMap (trees_at rows ids) vs → AllPlainStand zeros m (trees_at rows ids) (read (laid_each (vals_of vs) (trees_at rows ids))) vs
  unfolding laid_each
  all_laid rows [] plain flat vs h = (ap (λ us. read (laid_each (vals_of us) [])) h, h)
  all_laid rows (id ∷ ids) plain flat vs h =
      let ty = tree_at rows id.0 in
      let tys = trees_at rows ids in
      let first = laid_stands ty (plain 0 id (omega arith)) (flat 0 id (omega arith)) h.0 h.3 in
      let others = all_laid rows ids (λ i d below. plain (suc i) d (omega arith)) (λ i d below. flat (suc i) d (omega arith)) h.1 h.4 in
      let rest = laid_each (vals_of h.1) tys in
      let at : length (laid h.0 ty) ≡ size ty = words_long ty (laid h.0 ty) h.0 first in
      subst (λ us. AllPlainStand zeros m (ty ∷ tys) (read (laid_each (vals_of us) (ty ∷ tys))) us) (sym h.2) (
        h.0,
        h.1,
        refl,
        subst (λ cs. PlainStands zeros m ty cs h.0) (sym (front (laid h.0 ty) rest) ∙ ap (λ n. take n (read (laid h.0 ty ++ rest))) at) first,
        subst (λ cs. AllPlainStand zeros m tys cs h.1) (sym (behind (laid h.0 ty) rest) ∙ ap (λ n. drop n (read (laid h.0 ty ++ rest))) at) others,
      )
