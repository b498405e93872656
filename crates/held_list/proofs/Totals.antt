-- What taking and adding do to the sum and to the greatest of a number of each payload.
use Rattle.std.proofs.Common.{◌≡◌, ℕ, ◌+◌, max, [], ◌∷◌, Some, ap, arith, inl, inr}
use Rattle.std.proofs.lemmas.Option.{none-some, same_Some}
use Rattle.held_list.specs.Held.{Held, total, greatest}
use Rattle.held_list.specs.Editing.{take, add}
use Rattle.held_list.proofs.Steps.{take_cases, add_cases}

pub take_totals : {A : Type 0} (f : A → ℕ) (held : Held A) (v : ℕ) (a : A) (rest : Held A) → take v held ≡ Some (a, rest) → total f held ≡ f a + total f rest
take_totals f [] v a rest is = absurd (none-some _ is)
take_totals f (x ∷ xs) v a rest is =
    elim (take_cases x xs v a rest is) [
      | inl here ↦ omega (arith, ap f here.1, ap (total f) here.2)
      | inr behind ↦ omega (arith, ap (total f) behind.1.2, take_totals f xs v a behind.1.0 behind.1.1)
    ]

pub add_totals : {A : Type 0} (f : A → ℕ) (held : Held A) (v : ℕ) (a : A) (more : Held A) → add v a held ≡ Some more → total f more ≡ f a + total f held
add_totals f [] v a more is = omega (arith, ap (total f) (same_Some _ more is))
add_totals f (x ∷ xs) v a more is =
    elim (add_cases x xs v a more is) [
      | inl here ↦ omega (arith, ap (total f) here.1)
      | inr behind ↦ omega (arith, ap (total f) behind.1.2, add_totals f xs v a behind.1.0 behind.1.1)
    ]

pub take_greatest : {A : Type 0} (f : A → ℕ) (held : Held A) (v : ℕ) (a : A) (rest : Held A) → take v held ≡ Some (a, rest) → greatest f held ≡ max (f a) (greatest f rest)
take_greatest f [] v a rest is = absurd (none-some _ is)
take_greatest f (x ∷ xs) v a rest is =
    elim (take_cases x xs v a rest is) [
      | inl here ↦ omega (arith, ap f here.1, ap (greatest f) here.2)
      | inr behind ↦ omega (arith, ap (greatest f) behind.1.2, take_greatest f xs v a behind.1.0 behind.1.1)
    ]

pub add_greatest : {A : Type 0} (f : A → ℕ) (held : Held A) (v : ℕ) (a : A) (more : Held A) → add v a held ≡ Some more → greatest f more ≡ max (f a) (greatest f held)
add_greatest f [] v a more is = omega (arith, ap (greatest f) (same_Some _ more is))
add_greatest f (x ∷ xs) v a more is =
    elim (add_cases x xs v a more is) [
      | inl here ↦ omega (arith, ap (greatest f) here.1)
      | inr behind ↦ omega (arith, ap (greatest f) behind.1.2, add_greatest f xs v a behind.1.0 behind.1.1)
    ]
