-- What is taken out of a rising list leaves it rising, and what is added keeps it rising.
use Rattle.std.proofs.Common.{◌≡◌, ℕ, ◌+◌, ◌≤◌, [], ◌∷◌, Some, subst, arith, inl, inr}
use Rattle.std.proofs.lemmas.Option.{none-some, same_Some}
use Rattle.held_list.specs.Held.{Held, RisesFrom}
use Rattle.held_list.specs.Editing.{take, add}
use Rattle.held_list.proofs.Steps.{take_cases, add_cases}

pub rises_wider : {A : Type 0} (held : Held A) (low least : ℕ) → low ≤ least → RisesFrom least held → RisesFrom low held
rises_wider [] low least le rises = tt
rises_wider (x ∷ xs) low least le rises = (omega (arith, rises.0), rises.1)

pub take_rises : {A : Type 0} (held : Held A) (least v : ℕ) (a : A) (rest : Held A) → RisesFrom least held → take v held ≡ Some (a, rest) → RisesFrom least rest
take_rises [] least v a rest rises is = absurd (none-some _ is)
take_rises (x ∷ xs) least v a rest rises is =
    elim (take_cases x xs v a rest is) [
      | inl here ↦ subst (RisesFrom least) here.2 (rises_wider xs least (x.0 + 1) (omega (arith, rises.0)) rises.1)
      | inr behind ↦ subst (RisesFrom least) behind.1.2 (rises.0, take_rises xs (x.0 + 1) v a behind.1.0 rises.1 behind.1.1)
    ]

pub add_rises : {A : Type 0} (held : Held A) (least v : ℕ) (a : A) (more : Held A) → least ≤ v → RisesFrom least held → add v a held ≡ Some more → RisesFrom least more
add_rises [] least v a more le rises is = subst (RisesFrom least) (same_Some _ more is) (le, tt)
add_rises (x ∷ xs) least v a more le rises is =
    elim (add_cases x xs v a more is) [
      | inl here ↦ subst (RisesFrom least) here.1 (le, (omega (arith, here.0), rises.1))
      | inr behind ↦ subst (RisesFrom least) behind.1.2 (rises.0, add_rises xs (x.0 + 1) v a behind.1.0 (omega (arith, behind.0)) rises.1 behind.1.1)
    ]
