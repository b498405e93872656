-- Where a binary search finds a variable, and what taking, adding and looking up do there.
use Rattle.std.proofs.Common.{◌≡◌, ℕ, zero, suc, ◌+◌, ◌<◌, ◌≤◌, true, false, [], ◌∷◌, length, get_or, ltb, Some, None, IsSome, option_map, refl, sym, ap, ◌∙◌, arith, inl, inr}
use Rattle.std.specs.List.{insert, remove, HoldsAt}
use Rattle.std.specs.List.Sorted.{IsPartitionPoint, IsPartitionedBy, IsNonDecreasingBy}
use Rattle.std.specs.Ordering.{nat_cmp, ordering_index}
use Rattle.std.specs.declared.cmp.Ordering.TheVariants.{Less, Equal, Greater}
use Rattle.std.proofs.lemmas.Bool.{cases_order, cases_eq, false≢true, ltb-true, ltb-false, lt-ltb}
use Rattle.std.proofs.lemmas.Option.{none-some}
use Rattle.std.proofs.lemmas.Bool.Decides.{nat_tests}
use Rattle.held_list.specs.Held.{Held, RisesFrom, get}
use Rattle.held_list.specs.Editing.{take, add}
use Rattle.held_list.specs.Places.{IsAt, IsGap}

-- where the search ends

at_least : {A : Type 0} (held : Held A) (least v at : ℕ) → RisesFrom least held → IsAt v held at → least ≤ v
at_least [] least v at rises is = absurd is
at_least (x ∷ xs) least v zero rises is = omega (arith, rises.0)
at_least (x ∷ xs) least v (suc at) rises is = omega (arith, rises.0, is.0)

pub at_found : {A : Type 0} (held : Held A) (least v at : ℕ) → RisesFrom least held → at < length held → HoldsAt (λ (x : ℕ × A). nat_cmp x.0 v ≡ Equal) held at → IsAt v held at
at_found [] least v at rises within found = absurd (omega arith)
at_found (x ∷ xs) least v zero rises within found = let here = found x in grind (arith, nat_tests)
at_found (x ∷ xs) least v (suc at) rises within found =
    let later = at_found xs (x.0 + 1) v at rises.1 (omega arith) found in
    (omega (arith, at_least xs (x.0 + 1) v at rises.1 later), later)

pub gap_found : {A : Type 0} (held : Held A) (v at : ℕ) → at ≤ length held → IsPartitionPoint (λ (x : ℕ × A). nat_cmp x.0 v ≡ Less) (λ x. nat_cmp x.0 v ≡ Greater) held at → IsGap v held at
gap_found [] v at within point = omega arith
gap_found (x ∷ xs) v zero within point = let here = point.1 0 x (omega arith) (omega arith) in grind (arith, nat_tests)
gap_found (x ∷ xs) v (suc at) within point =
    let here = point.0 0 x (omega arith) (omega arith) in
    let lower : x.0 < v = grind (arith, nat_tests) in
    (lower, gap_found xs v at (omega arith) ((λ k d le lt. point.0 (suc k) d (omega arith) (omega arith)), (λ k d le lt. point.1 (suc k) d (omega arith) (omega arith))))

later_above : {A : Type 0} (held : Held A) (least k : ℕ) (d : ℕ × A) → RisesFrom least held → k < length held → least ≤ (get_or held k d).0
later_above [] least k d rises lt = absurd (omega arith)
later_above (x ∷ xs) least zero d rises lt = rises.0
later_above (x ∷ xs) least (suc k) d rises lt = omega (arith, rises.0, later_above xs (x.0 + 1) k d rises.1 (omega arith))

-- the answers of the comparison rise along a rising list
pub answers_rise : {A : Type 0} (held : Held A) (least v : ℕ) → RisesFrom least held → IsNonDecreasingBy (λ (x : ℕ × A). ordering_index (nat_cmp x.0 v)) held
answers_rise [] least v rises i j d le lt = absurd (omega arith)
answers_rise (x ∷ xs) least v rises zero zero d le lt = omega arith
answers_rise (x ∷ xs) least v rises (suc i) zero d le lt = absurd (omega arith)
answers_rise (x ∷ xs) least v rises (suc i) (suc j) d le lt = answers_rise xs (x.0 + 1) v rises.1 i j d (omega arith) (omega arith)
answers_rise {A} (x ∷ xs) least v rises zero (suc j) d le lt =
    let above = later_above xs (x.0 + 1) j d rises.1 (omega arith) in
    higher x.0 (get_or xs j d).0 v (omega (arith, above))
  where
    higher : (a b v : ℕ) → a ≤ b → ordering_index (nat_cmp a v) ≤ ordering_index (nat_cmp b v)
    higher a b v le = grind (arith, nat_tests)

-- what is done there

pub at_within : {A : Type 0} (held : Held A) (v at : ℕ) → IsAt v held at → at < length held
at_within [] v at is = absurd is
at_within (x ∷ xs) v zero is = omega arith
at_within (x ∷ xs) v (suc at) is = omega (arith, at_within xs v at is.1)

pub gap_within : {A : Type 0} (held : Held A) (v at : ℕ) → IsGap v held at → at ≤ length held
gap_within [] v at is = omega (arith, is)
gap_within (x ∷ xs) v zero is = omega arith
gap_within (x ∷ xs) v (suc at) is = omega (arith, gap_within xs v at is.1)

pub get-at : {A : Type 0} (held : Held A) (v at : ℕ) (x : ℕ × A) → IsAt v held at → x ≡ get_or held at x → get v held ≡ Some x.1
get-at [] v at x is read = absurd is
get-at (y ∷ ys) v zero x is read = grind (arith, nat_tests)
get-at (y ∷ ys) v (suc at) x is read = let later = get-at ys v at x is.1 read in grind (arith, nat_tests)

-- nothing below the first variable is held
pub get-below : {A : Type 0} (held : Held A) (least v : ℕ) → RisesFrom least held → v < least → get v held ≡ None
get-below [] least v rises lt = refl
get-below (x ∷ xs) least v rises lt = let later = get-below xs (x.0 + 1) v rises.1 (omega (arith, rises.0)) in grind (arith, nat_tests)

pub get-gap : {A : Type 0} (held : Held A) (least v at : ℕ) → RisesFrom least held → IsGap v held at → get v held ≡ None
get-gap [] least v at rises is = refl
get-gap (x ∷ xs) least v zero rises is = let later = get-below xs (x.0 + 1) v rises.1 (omega arith) in grind (arith, nat_tests)
get-gap (x ∷ xs) least v (suc at) rises is = let later = get-gap xs (x.0 + 1) v at rises.1 is.1 in grind (arith, nat_tests)

pub take-at : {A : Type 0} (held : Held A) (v at : ℕ) (x : ℕ × A) → IsAt v held at → x ≡ get_or held at x → take v held ≡ Some (x.1, remove held at)
take-at [] v at x is read = absurd is
take-at (y ∷ ys) v zero x is read = grind (arith, nat_tests)
take-at {A} (y ∷ ys) v (suc at) x is read =
    let later = take-at ys v at x is.1 read in
    let here : take v (y ∷ ys) ≡ option_map (λ (taken : A × Held A). (taken.0, y ∷ taken.1)) (take v ys) = grind (arith, nat_tests) in
    here ∙ ap (option_map (λ (taken : A × Held A). (taken.0, y ∷ taken.1))) later

-- a variable that isn't there can't be taken
pub take-missing : {A : Type 0} (held : Held A) (v : ℕ) → get v held ≡ None → take v held ≡ None
take-missing [] v is = refl
take-missing {A} (x ∷ xs) v is =
    elim (cases_order v x.0) [
      | inl same ↦ absurd (let here : get v (x ∷ xs) ≡ Some x.1 = grind (arith, nat_tests) in none-some x.1 (sym is ∙ here))
      | inr other ↦
          let skip : get v (x ∷ xs) ≡ get v xs = grind (arith, nat_tests) in
          let here : take v (x ∷ xs) ≡ option_map (λ (taken : A × Held A). (taken.0, x ∷ taken.1)) (take v xs) = grind (arith, nat_tests) in
          here ∙ ap (option_map (λ (taken : A × Held A). (taken.0, x ∷ taken.1))) (take-missing xs v (sym skip ∙ is))
    ]

pub add-at : {A : Type 0} (held : Held A) (v at : ℕ) (a : A) → IsAt v held at → add v a held ≡ None
add-at [] v at a is = absurd is
add-at (x ∷ xs) v zero a is = grind (arith, nat_tests)
add-at (x ∷ xs) v (suc at) a is =
    let here : add v a (x ∷ xs) ≡ option_map (λ more. x ∷ more) (add v a xs) = grind (arith, nat_tests) in
    here ∙ ap (option_map (λ more. x ∷ more)) (add-at xs v at a is.1)

pub add-gap : {A : Type 0} (held : Held A) (v at : ℕ) (a : A) → IsGap v held at → add v a held ≡ Some (insert held at (v, a))
add-gap [] v at a is = rw is refl
add-gap (x ∷ xs) v zero a is = grind (arith, nat_tests)
add-gap (x ∷ xs) v (suc at) a is =
    let here : add v a (x ∷ xs) ≡ option_map (λ more. x ∷ more) (add v a xs) = grind (arith, nat_tests) in
    here ∙ ap (option_map (λ more. x ∷ more)) (add-gap xs v at a is.1)

-- what is known to be held

pub lower_parted : {A : Type 0} (held : Held A) (least v : ℕ) → RisesFrom least held → IsPartitionedBy (λ (x : ℕ × A). ltb x.0 v) held
lower_parted [] least v rises i j d le lt lower = absurd (omega arith)
lower_parted (x ∷ xs) least v rises zero zero d le lt lower = lower
lower_parted (x ∷ xs) least v rises (suc i) zero d le lt lower = absurd (omega arith)
lower_parted (x ∷ xs) least v rises (suc i) (suc j) d le lt lower = lower_parted xs (x.0 + 1) v rises.1 i j d (omega arith) (omega arith) lower
lower_parted (x ∷ xs) least v rises zero (suc j) d le lt lower =
    let above = later_above xs (x.0 + 1) j d rises.1 (omega arith) in
    lt-ltb x.0 v (omega (arith, above, ltb-true (get_or xs j d).0 v lower))

pub at_parted : {A : Type 0} (held : Held A) (least v at : ℕ) → RisesFrom least held → at ≤ length held → IsPartitionPoint (λ (x : ℕ × A). ltb x.0 v ≡ true) (λ x. ltb x.0 v ≡ false) held at → IsSome (get v held) → IsAt v held at
at_parted [] least v at rises within point held = absurd (false≢true held)
at_parted (x ∷ xs) least v zero rises within point held =
    let above = ltb-false x.0 v (point.1 0 x (omega arith) (omega arith)) in
    elim (cases_eq v x.0) [
      | inl same ↦ same
      | inr other ↦
          let none : get v (x ∷ xs) ≡ None = get-below (x ∷ xs) x.0 v (omega arith, rises.1) (omega arith) in
          absurd (false≢true (rw none at held))
    ]
at_parted (x ∷ xs) least v (suc at) rises within point held =
    let lower = ltb-true x.0 v (point.0 0 x (omega arith) (omega arith)) in
    let skip : get v (x ∷ xs) ≡ get v xs = grind (arith, nat_tests) in
    (lower, at_parted xs (x.0 + 1) v at rises.1 (omega arith) ((λ k d le lt. point.0 (suc k) d (omega arith) (omega arith)), (λ k d le lt. point.1 (suc k) d (omega arith) (omega arith))) (rw skip at held))
