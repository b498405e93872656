-- Lists with the same variables stay alike: what can be taken from one, or added to it, can be with the other.
use Rattle.std.proofs.Common.{◌≡◌, ℕ, [], ◌∷◌, Some, refl, sym, subst, ◌∙◌, arith, inl, inr}
use Rattle.std.proofs.lemmas.Option.{none-some, same_Some}
use Rattle.held_list.specs.Held.{Held, Each}
use Rattle.held_list.specs.Editing.{take, add}
use Rattle.held_list.proofs.Steps.{take_cases, take-first, take-later, add_cases, add-first, add-later}

pub take_lifts : {A B : Type 0} (R : A → B → Type 0) (held : Held A) (env : Held B) (v : ℕ) (t : A) (rest : Held A) → Each R held env → take v held ≡ Some (t, rest)
    → (x : B) × (left : Held B) × (take v env ≡ Some (x, left)) × R t x × Each R rest left
take_lifts R [] env v t rest alike is = absurd (none-some _ is)
take_lifts R (h ∷ hs) [] v t rest alike is = absurd alike
take_lifts {A} {B} R (h ∷ hs) (e ∷ es) v t rest alike is =
    elim (take_cases h hs v t rest is) [
      | inl here ↦
          (e.1, es, take-first e es v (here.0 ∙ alike.0), subst (λ a. R a e.1) here.1 alike.1, subst (λ r. Each R r es) here.2 alike.2)
      | inr behind ↦
          let found = take_lifts R hs es v t behind.1.0 alike.2 behind.1.1 in
          (found.0, e ∷ found.1, take-later e es v found.0 found.1 (λ same. behind.0 (same ∙ sym alike.0)) found.2, found.3, subst (λ r. Each R r (e ∷ found.1)) behind.1.2 (alike.0, alike.1, found.4))
    ]

pub add_lifts : {A B : Type 0} (R : A → B → Type 0) (held : Held A) (env : Held B) (v : ℕ) (t : A) (x : B) (more : Held A) → Each R held env → R t x → add v t held ≡ Some more
    → (grown : Held B) × (add v x env ≡ Some grown) × Each R more grown
add_lifts R [] [] v t x more alike fits is = ((v, x) ∷ [], refl, subst (λ m. Each R m ((v, x) ∷ [])) (same_Some _ more is) (refl, fits, tt))
add_lifts R [] (e ∷ es) v t x more alike fits is = absurd alike
add_lifts R (h ∷ hs) [] v t x more alike fits is = absurd alike
add_lifts R (h ∷ hs) (e ∷ es) v t x more alike fits is =
    elim (add_cases h hs v t more is) [
      | inl here ↦
          ((v, x) ∷ e ∷ es, add-first e es v x (omega (arith, here.0, alike.0)), subst (λ m. Each R m ((v, x) ∷ e ∷ es)) here.1 (refl, fits, alike))
      | inr behind ↦
          let found = add_lifts R hs es v t x behind.1.0 alike.2 fits behind.1.1 in
          (e ∷ found.0, add-later e es v x found.0 (omega (arith, behind.0, alike.0)) found.1, subst (λ m. Each R m (e ∷ found.0)) behind.1.2 (alike.0, alike.1, found.2))
    ]
