-- Taking and adding one pair further into a list.
use Rattle.std.proofs.Common.{◌≡◌, ℕ, ◌<◌, ◌⊎◌, ◌∷◌, Option, Some, None, option_map, refl, sym, ap, ◌∙◌, arith, inl, inr}
use Rattle.std.proofs.lemmas.Bool.{cases_order, cases_eq}
use Rattle.std.proofs.lemmas.Bool.Decides.{nat_tests}
use Rattle.std.proofs.lemmas.Option.{none-some, same_Some, some_pair_parts}
use Rattle.held_list.specs.Held.{Held}
use Rattle.held_list.specs.Editing.{take, add}

-- what an `option_map` gives comes from a value
mapped_some : {A B : Type 0} (f : A → B) (o : Option A) (y : B) → option_map f o ≡ Some y → (x : A) × (o ≡ Some x) × (f x ≡ y)
mapped_some f None y is = absurd (none-some y is)
mapped_some f (Some x) y is = (x, refl, same_Some (f x) y is)

-- the variable is the first one, or it is taken from behind it
pub take_cases : {A : Type 0} (x : ℕ × A) (xs : Held A) (v : ℕ) (a : A) (rest : Held A) → take v (x ∷ xs) ≡ Some (a, rest)
    → ((v ≡ x.0) × (x.1 ≡ a) × (xs ≡ rest)) ⊎ ((v ≡ x.0 → ⊥) × ((later : Held A) × (take v xs ≡ Some (a, later)) × (x ∷ later ≡ rest)))
take_cases {A} x xs v a rest is =
    elim (cases_eq v x.0) [
      | inl same ↦
          let here : take v (x ∷ xs) ≡ Some (x.1, xs) = grind (arith, nat_tests) in
          let parts = some_pair_parts x.1 a xs rest (sym here ∙ is) in
          inl (same, parts.0, parts.1)
      | inr other ↦
          let onto : A × Held A → A × Held A = λ taken. (taken.0, x ∷ taken.1) in
          let here : take v (x ∷ xs) ≡ option_map onto (take v xs) = grind (arith, nat_tests) in
          let found = mapped_some onto (take v xs) (a, rest) (sym here ∙ is) in
          let parts = some_pair_parts found.0.0 a (x ∷ found.0.1) rest (ap Some found.2) in
          inr (other, (found.0.1, found.1 ∙ ap (λ b. Some (b, found.0.1)) parts.0, parts.1))
    ]

pub take-first : {A : Type 0} (x : ℕ × A) (xs : Held A) (v : ℕ) → v ≡ x.0 → take v (x ∷ xs) ≡ Some (x.1, xs)
take-first x xs v same = grind (arith, nat_tests)

pub take-later : {A : Type 0} (x : ℕ × A) (xs : Held A) (v : ℕ) (a : A) (later : Held A) → (v ≡ x.0 → ⊥) → take v xs ≡ Some (a, later) → take v (x ∷ xs) ≡ Some (a, x ∷ later)
take-later {A} x xs v a later other is =
    let onto : A × Held A → A × Held A = λ taken. (taken.0, x ∷ taken.1) in
    let here : take v (x ∷ xs) ≡ option_map onto (take v xs) = grind (arith, nat_tests) in
    here ∙ ap (option_map onto) is

-- the variable goes before the first one, or behind it
pub add_cases : {A : Type 0} (x : ℕ × A) (xs : Held A) (v : ℕ) (a : A) (more : Held A) → add v a (x ∷ xs) ≡ Some more
    → ((v < x.0) × ((v, a) ∷ x ∷ xs ≡ more)) ⊎ ((x.0 < v) × ((later : Held A) × (add v a xs ≡ Some later) × (x ∷ later ≡ more)))
add_cases {A} x xs v a more is =
    elim (cases_order v x.0) [
      | inl same ↦ absurd (let here : add v a (x ∷ xs) ≡ None = grind (arith, nat_tests) in none-some more (sym here ∙ is))
      | inr (inl below) ↦
          let here : add v a (x ∷ xs) ≡ Some ((v, a) ∷ x ∷ xs) = grind (arith, nat_tests) in
          inl (below, same_Some _ more (sym here ∙ is))
      | inr (inr above) ↦
          let here : add v a (x ∷ xs) ≡ option_map (λ (more : Held A). x ∷ more) (add v a xs) = grind (arith, nat_tests) in
          let found = mapped_some (λ (more : Held A). x ∷ more) (add v a xs) more (sym here ∙ is) in
          inr (above, found)
    ]

pub add-first : {A : Type 0} (x : ℕ × A) (xs : Held A) (v : ℕ) (a : A) → v < x.0 → add v a (x ∷ xs) ≡ Some ((v, a) ∷ x ∷ xs)
add-first x xs v a below = grind (arith, nat_tests)

pub add-later : {A : Type 0} (x : ℕ × A) (xs : Held A) (v : ℕ) (a : A) (later : Held A) → x.0 < v → add v a xs ≡ Some later → add v a (x ∷ xs) ≡ Some (x ∷ later)
add-later {A} x xs v a later above is =
    let here : add v a (x ∷ xs) ≡ option_map (λ (more : Held A). x ∷ more) (add v a xs) = grind (arith, nat_tests) in
    here ∙ ap (option_map (λ (more : Held A). x ∷ more)) is
