-- At most one value of a plain type stands in some cells.
use Rattle.std.proofs.Common.{◌≡◌, ℕ, zero, suc, ◌+◌, ◌-◌, ◌*◌, ◌/◌, ◌<◌, ◌≤◌, ◌^◌, Bool, true, false, ◌&&◌, not, Option, Some, None, List, [], ◌∷◌, take, drop, length, refl, sym, ap, ◌∙◌, subst, arith}
use Rattle.std.proofs.Math.Nat.{mul-div_cancel_left}
use Rattle.std.proofs.lemmas.Bool.{false≢true}
use Rattle.std.proofs.lemmas.Nat.{mul-lt}
use Rattle.felt64.specs.Field.{sum, modulus}
use Rattle.ro_machine.specs.Readings.{Readings, cells_at}
use Rattle.type_trees.specs.Ty.{Ty, Tys, number, nonzero, range_check, gas_builtin, box, array, snapshot, struct, enum, dict, dict_entry, squashed_dict, uninitialized, no_types, types, size, is_plain, all_plain, holds_array}
use Rattle.type_trees.specs.declared.num.Num.{Num}
use Rattle.value_trees.specs.Val.{Val, vals_of}
use Rattle.value_trees.specs.Val as val
use Rattle.cell_forms.specs.Stands.{Stands, StandTogether, StandsVariant, Each, Between, most_elements}
use Rattle.cell_forms.specs.Standing.{HasCountedArrays, HaveCountedArrays}

abbrev first_or : ℕ → Readings → ℕ
first_or d [] = d
first_or d (None ∷ cells) = d
first_or d (Some n ∷ cells) = n

abbrev second_or : ℕ → Readings → ℕ
second_or d [] = d
second_or d (o ∷ cells) = first_or d cells

pub same_first : (a b : ℕ) (cells rest more : Readings) → cells ≡ Some a ∷ rest → cells ≡ Some b ∷ more → a ≡ b
same_first a b cells rest more h k = ap (first_or 0) (sym h ∙ k)

pub same_second : (a b c d : ℕ) (cells rest more : Readings) → cells ≡ Some a ∷ Some b ∷ rest → cells ≡ Some c ∷ Some d ∷ more → b ≡ d
same_second a b c d cells rest more h k = ap (second_or 0) (sym h ∙ k)

sums_once : (start x y : ℕ) → x < modulus → y < modulus → sum start x ≡ sum start y → x ≡ y
sums_once start x y small low same = omega (arith, same, small, low)

-- so many elements end at one place alone
pub lengths_once : (z start a b : ℕ) → 1 ≤ z → z ≤ 2 ^ 14 → a < most_elements → b < most_elements → sum start (z * a) ≡ sum start (z * b) → a ≡ b
lengths_once z start a b some few small low same =
    let x : z * a < (2 ^ 14 + 1) * 2 ^ 32 = mul-lt z a (2 ^ 14 + 1) (2 ^ 32) (omega (arith, few)) small in
    let y : z * b < (2 ^ 14 + 1) * 2 ^ 32 = mul-lt z b (2 ^ 14 + 1) (2 ^ 32) (omega (arith, few)) low in
    let products = sums_once start (z * a) (z * b) (omega (arith, x)) (omega (arith, y)) same in
    sym (mul-div_cancel_left a {n = z} (omega (arith, some))) ∙ ap (λ p. p / z) products ∙ mul-div_cancel_left b {n = z} (omega (arith, some))

module _ (m : ℕ → Option ℕ) {X : Type 0} (Q : Readings → X → Type 0) (once : (cells : Readings) (x y : X) → Q cells x → Q cells y → x ≡ y) where
  each_once : (z start k : ℕ) (xs ys : List X) → length xs ≡ length ys → Each m Q z start k xs → Each m Q z start k ys → xs ≡ ys
  each_once z start k [] [] long h g = refl
  each_once z start k [] (y ∷ ys) long h g = absurd (omega (arith, long))
  each_once z start k (x ∷ xs) [] long h g = absurd (omega (arith, long))
  each_once z start k (x ∷ xs) (y ∷ ys) long h g =
      ap (λ a. a ∷ xs) (once (cells_at m start k z) x y h.0 g.0) ∙ ap (λ l. y ∷ l) (each_once z start (k + z) xs ys (omega (arith, long)) h.1 g.1)

  pub between_once : (z : ℕ) (cells : Readings) (xs ys : List X) → 1 ≤ z → z ≤ 2 ^ 14 → Between m Q z cells xs → Between m Q z cells ys → xs ≡ ys
  between_once z cells xs ys some few h g =
      let start = same_first h.0 g.0 cells (Some h.1 ∷ []) (Some g.1 ∷ []) h.2 g.2 in
      let end = same_second h.0 h.1 g.0 g.1 cells [] [] h.2 g.2 in
      let sums : sum h.0 (z * length xs) ≡ sum h.0 (z * length ys) = sym h.3 ∙ end ∙ g.3 ∙ ap (λ s. sum s (z * length ys)) (sym start) in
      let long = lengths_once z h.0 (length xs) (length ys) some few h.4 g.4 sums in
      each_once z h.0 0 xs ys long h.5 (subst (λ s. Each m Q z s 0 ys) (sym start) g.5)

pub both_true : (a b : Bool) → (a && b) ≡ true → (a ≡ true) × (b ≡ true)
both_true true b h = (refl, h)
both_true false b h = absurd (false≢true h)

module _ {D E : Type 0} (Pad : Option ℕ → Type 0) (OfDict : Num → Readings → D → Type 0) (OfEntry : Num → Readings → E → Type 0) (m : ℕ → Option ℕ) where
  mutual
    pub value_once : (ty : Ty) (cells : Readings) (v w : Val D E) → is_plain ty ≡ true → HasCountedArrays ty
        → Stands Pad OfDict OfEntry m ty cells v → Stands Pad OfDict OfEntry m ty cells w → v ≡ w
    value_once (number k) cells v w plain counted h g = h.2.0 ∙ ap (val.number k) (same_first h.0 g.0 cells [] [] h.1 g.1) ∙ sym g.2.0
    value_once (nonzero k) cells v w plain counted h g = absurd (false≢true plain)
    value_once range_check cells v w plain counted h g = absurd (false≢true plain)
    value_once gas_builtin cells v w plain counted h g = absurd (false≢true plain)
    value_once (box ty) cells v w plain counted h g = absurd (false≢true plain)
    value_once (array ty) cells v w plain counted h g =
        let inner = (both_true (is_plain ty) (not (holds_array ty)) plain).0 in
        h.1 ∙ ap (λ vs. val.array (vals_of vs))
        (between_once m (Stands Pad OfDict OfEntry m ty) (λ at x y a b. value_once ty at x y inner counted.2 a b) (size ty) cells h.0 g.0 counted.0 counted.1 h.2 g.2)
        ∙ sym g.1
    value_once (snapshot ty) cells v w plain counted h g = absurd (false≢true plain)
    value_once (struct name tys) cells v w plain counted h g = h.1 ∙ ap (λ vs. val.struct (vals_of vs)) (together_once tys cells h.0 g.0 plain counted h.2 g.2) ∙ sym g.1
    value_once (enum name tys) cells v w plain counted h g =
        let same = same_first h.0 g.0 (take 1 cells) [] [] h.4 g.4 in
        h.2 ∙ ap (λ i. val.enum i h.1) same
        ∙ ap (val.enum g.0) (variant_once tys g.0 (drop 1 cells) h.1 g.1 plain counted (subst (λ i. StandsVariant Pad OfDict OfEntry m tys i (drop 1 cells) h.1) same h.5) g.5)
        ∙ sym g.2
    value_once (dict k) cells v w plain counted h g = absurd (false≢true plain)
    value_once (dict_entry k) cells v w plain counted h g = absurd (false≢true plain)
    value_once (squashed_dict k) cells v w plain counted h g = absurd (false≢true plain)
    value_once (uninitialized ty) cells v w plain counted h g = absurd (false≢true plain)

    together_once : (tys : Tys) (cells : Readings) (vs ws : List (Val D E)) → all_plain tys ≡ true → HaveCountedArrays tys
        → StandTogether Pad OfDict OfEntry m tys cells vs → StandTogether Pad OfDict OfEntry m tys cells ws → vs ≡ ws
    together_once no_types cells vs ws plain counted h g = h.1 ∙ sym g.1
    together_once (types ty tys) cells vs ws plain counted h g =
        let both = both_true (is_plain ty) (all_plain tys) plain in
        h.2 ∙ ap (λ v. v ∷ h.1) (value_once ty (take (size ty) cells) h.0 g.0 both.0 counted.0 h.3 g.3)
        ∙ ap (λ rest. g.0 ∷ rest) (together_once tys (drop (size ty) cells) h.1 g.1 both.1 counted.1 h.4 g.4) ∙ sym g.2

    variant_once : (tys : Tys) (i : ℕ) (cells : Readings) (v w : Val D E) → all_plain tys ≡ true → HaveCountedArrays tys
        → StandsVariant Pad OfDict OfEntry m tys i cells v → StandsVariant Pad OfDict OfEntry m tys i cells w → v ≡ w
    variant_once no_types i cells v w plain counted h g = absurd h
    variant_once (types ty tys) zero cells v w plain counted h g =
        value_once ty (drop (length cells - size ty) cells) v w (both_true (is_plain ty) (all_plain tys) plain).0 counted.0 h.1 g.1
    variant_once (types ty tys) (suc i) cells v w plain counted h g = variant_once tys i cells v w (both_true (is_plain ty) (all_plain tys) plain).1 counted.1 h g
