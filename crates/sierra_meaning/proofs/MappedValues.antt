-- Variables are taken and added alike where their payloads are mapped: values of the code, and what they are meant to be.
use Rattle.std.proofs.Common.{◌≡◌, inl, inr, ℕ, List, [], ◌∷◌, Some, IsSome, Ok, map, ap, ◌∙◌, arith}
use Rattle.std.specs.List.{zip}
use Rattle.std.proofs.lemmas.Bool.Decides.{nat_tests}
use Rattle.std.proofs.lemmas.Option.{none-some, same_Some}
use Rattle.held_list.specs.Held.{Held, get}
use Rattle.held_list.specs.Editing.{take, add, take_all, add_all}
use Rattle.held_list.proofs.Steps.{take_cases, take-first, take-later, add_cases, add-first, add-later}
use Rattle.sierra_meaning.specs.Evaluating.{mapped_held}
use Rattle.sierra_meaning.proofs.HeldValues.{ok_same, or_stop_ok, takes_first}
use Rattle.sierra_meaning.proofs.Typing.{take_then, add_then}

module _ {A B : Type 0} (f : A → B) where
  pub take_mapped : (held : Held A) (v : ℕ) (a : A) (rest : Held A) → take v held ≡ Some (a, rest) → take v (mapped_held f held) ≡ Some (f a, mapped_held f rest)
  take_mapped [] v a rest is = absurd (none-some (a, rest) is)
  take_mapped (x ∷ xs) v a rest is =
      elim (take_cases x xs v a rest is) [
        | inl here ↦
            take-first (x.0, f x.1) (mapped_held f xs) v here.0 ∙ ap (λ y. Some (f y, mapped_held f xs)) here.1 ∙ ap (λ r. Some (f a, mapped_held f r)) here.2
        | inr behind ↦
            take-later (x.0, f x.1) (mapped_held f xs) v (f a) (mapped_held f behind.1.0) behind.0 (take_mapped xs v a behind.1.0 behind.1.1)
            ∙ ap (λ r. Some (f a, mapped_held f r)) behind.1.2
      ]

  pub add_mapped : (held : Held A) (v : ℕ) (a : A) (more : Held A) → add v a held ≡ Some more → add v (f a) (mapped_held f held) ≡ Some (mapped_held f more)
  add_mapped [] v a more is = ap (λ r. Some (mapped_held f r)) (same_Some _ more is)
  add_mapped (x ∷ xs) v a more is =
      elim (add_cases x xs v a more is) [
        | inl here ↦ add-first (x.0, f x.1) (mapped_held f xs) v (f a) here.0 ∙ ap (λ r. Some (mapped_held f r)) here.1
        | inr behind ↦
            add-later (x.0, f x.1) (mapped_held f xs) v (f a) (mapped_held f behind.1.0) behind.0 (add_mapped xs v a behind.1.0 behind.1.1)
            ∙ ap (λ r. Some (mapped_held f r)) behind.1.2
      ]

  -- what is held where the payloads are mapped is held
  pub held_mapped : (held : Held A) (v : ℕ) (b : B) (rest : Held B) → take v (mapped_held f held) ≡ Some (b, rest) → IsSome (get v held)
  held_mapped [] v b rest is = absurd (none-some (b, rest) is)
  held_mapped (x ∷ xs) v b rest is =
      elim (take_cases (x.0, f x.1) (mapped_held f xs) v b rest is) [
        | inl here ↦ (let first : v ≡ x.0 = here.0 in grind (arith, nat_tests))
        | inr behind ↦ (let other : v ≡ x.0 → ⊥ = behind.0 in let later = held_mapped xs v b behind.1.0 behind.1.1 in grind (arith, nat_tests))
      ]

  pub take_all_mapped : (names : List ℕ) (held : Held A) (vs : List A) (rest : Held A) → take_all names held ≡ Ok (vs, rest) → take_all names (mapped_held f held) ≡ Ok (map f vs, mapped_held f rest)
  take_all_mapped [] held vs rest is =
      let same = ok_same ([], held) (vs, rest) is in
      ap (λ (p : List A × Held A). Ok (map f p.0, mapped_held f p.1)) same
  take_all_mapped (n ∷ names) held vs rest is =
      let parts = takes_first n names held vs rest is in
      let here = take_mapped held n parts.first parts.left parts.takes in
      let later = take_all_mapped names parts.left parts.others rest parts.then_takes in
      take_then n names (mapped_held f held) (mapped_held f parts.left) (mapped_held f rest) (f parts.first) (map f parts.others) here later
      ∙ ap (λ us. Ok (map f us, mapped_held f rest)) parts.all

  pub add_all_mapped : (names : List ℕ) (vs : List A) (held more : Held A) → add_all (zip names vs) held ≡ Ok more → add_all (zip names (map f vs)) (mapped_held f held) ≡ Ok (mapped_held f more)
  add_all_mapped [] vs held more is = ap (λ r. Ok (mapped_held f r)) (ok_same held more is)
  add_all_mapped (n ∷ names) [] held more is = ap (λ r. Ok (mapped_held f r)) (ok_same held more is)
  add_all_mapped (n ∷ names) (v ∷ vs) held more is =
      let found = or_stop_ok (add n v held) n (add_all (zip names vs)) more is in
      add_then n (zip names (map f vs)) (mapped_held f held) (mapped_held f found.0) (mapped_held f more) (f v) (add_mapped held n v found.0 found.1) (add_all_mapped names vs found.0 more found.2)
