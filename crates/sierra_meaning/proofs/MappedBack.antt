-- Where variables can be taken and added with mapped payloads, they can be with the payloads as they are, and alike.
use Rattle.std.proofs.Common.{◌≡◌, inl, inr, ℕ, List, [], ◌∷◌, Some, Ok, map, refl, ap, ◌∙◌}
use Rattle.std.specs.List.{zip}
use Rattle.std.proofs.lemmas.Option.{none-some, same_Some}
use Rattle.held_list.specs.Held.{Held}
use Rattle.held_list.specs.Editing.{take, add, take_all, add_all}
use Rattle.held_list.proofs.Steps.{take_cases, take-first, take-later, add_cases, add-first, add-later}
use Rattle.sierra_meaning.specs.Evaluating.{mapped_held}
use Rattle.sierra_meaning.proofs.HeldValues.{ok_same, or_stop_ok, takes_first}
use Rattle.sierra_meaning.proofs.Typing.{take_then, add_then}

module _ {A B : Type 0} (f : A → B) where
  pub record Taken (v : ℕ) (held : Held A) (b : B) (left : Held B) : Type 0 where
    pub payload : A
    pub rest : Held A
    pub takes : take v held ≡ Some (payload, rest)
    pub same : f payload ≡ b
    pub alike : mapped_held f rest ≡ left

  pub take_back : (held : Held A) (v : ℕ) (b : B) (left : Held B) → take v (mapped_held f held) ≡ Some (b, left) → Taken v held b left
  take_back [] v b left is = absurd (none-some (b, left) is)
  take_back (x ∷ xs) v b left is =
      elim (take_cases (x.0, f x.1) (mapped_held f xs) v b left is) [
        | inl here ↦ record { payload = x.1; rest = xs; takes = take-first x xs v here.0; same = here.1; alike = here.2 }
        | inr behind ↦
            let later = take_back xs v b behind.1.0 behind.1.1 in
            record {
              payload = later.payload;
              rest = x ∷ later.rest;
              takes = take-later x xs v later.payload later.rest behind.0 later.takes;
              same = later.same;
              alike = ap (λ r. (x.0, f x.1) ∷ r) later.alike ∙ behind.1.2;
            }
      ]

  pub record AllTaken (names : List ℕ) (held : Held A) (us : List B) (left : Held B) : Type 0 where
    pub payloads : List A
    pub rest : Held A
    pub takes : take_all names held ≡ Ok (payloads, rest)
    pub same : map f payloads ≡ us
    pub alike : mapped_held f rest ≡ left

  pub take_all_back : (names : List ℕ) (held : Held A) (us : List B) (left : Held B) → take_all names (mapped_held f held) ≡ Ok (us, left) → AllTaken names held us left
  take_all_back [] held us left is =
      let same = ok_same ([], mapped_held f held) (us, left) is in
      record { payloads = []; rest = held; takes = refl; same = ap (λ (p : List B × Held B). p.0) same; alike = ap (λ (p : List B × Held B). p.1) same }
  take_all_back (n ∷ names) held us left is =
      let parts = takes_first n names (mapped_held f held) us left is in
      let first = take_back held n parts.first parts.left parts.takes in
      let others = take_all_back names first.rest parts.others left (ap (take_all names) first.alike ∙ parts.then_takes) in
      record {
        payloads = first.payload ∷ others.payloads;
        rest = others.rest;
        takes = take_then n names held first.rest others.rest first.payload others.payloads first.takes others.takes;
        same = ap (λ y. y ∷ map f others.payloads) first.same ∙ ap (λ ys. parts.first ∷ ys) others.same ∙ parts.all;
        alike = others.alike;
      }

  pub record Added (v : ℕ) (payload : A) (held : Held A) (grown : Held B) : Type 0 where
    pub more : Held A
    pub adds : add v payload held ≡ Some more
    pub alike : mapped_held f more ≡ grown

  pub add_back : (held : Held A) (v : ℕ) (payload : A) (grown : Held B) → add v (f payload) (mapped_held f held) ≡ Some grown → Added v payload held grown
  add_back [] v payload grown is = record { more = (v, payload) ∷ []; adds = refl; alike = same_Some _ grown is }
  add_back (x ∷ xs) v payload grown is =
      elim (add_cases (x.0, f x.1) (mapped_held f xs) v (f payload) grown is) [
        | inl here ↦ record { more = (v, payload) ∷ x ∷ xs; adds = add-first x xs v payload here.0; alike = here.1 }
        | inr behind ↦
            let later = add_back xs v payload behind.1.0 behind.1.1 in
            record {
              more = x ∷ later.more;
              adds = add-later x xs v payload later.more behind.0 later.adds;
              alike = ap (λ r. (x.0, f x.1) ∷ r) later.alike ∙ behind.1.2;
            }
      ]

  pub record AllAdded (names : List ℕ) (payloads : List A) (held : Held A) (grown : Held B) : Type 0 where
    pub more : Held A
    pub adds : add_all (zip names payloads) held ≡ Ok more
    pub alike : mapped_held f more ≡ grown

  pub add_all_back : (names : List ℕ) (payloads : List A) (held : Held A) (grown : Held B) → add_all (zip names (map f payloads)) (mapped_held f held) ≡ Ok grown → AllAdded names payloads held grown
  add_all_back [] payloads held grown is = record { more = held; adds = refl; alike = ok_same (mapped_held f held) grown is }
  add_all_back (n ∷ names) [] held grown is = record { more = held; adds = refl; alike = ok_same (mapped_held f held) grown is }
  add_all_back (n ∷ names) (x ∷ payloads) held grown is =
      let found = or_stop_ok (add n (f x) (mapped_held f held)) n (add_all (zip names (map f payloads))) grown is in
      let first = add_back held n x found.0 found.1 in
      let others = add_all_back names payloads first.more grown (ap (add_all (zip names (map f payloads))) first.alike ∙ found.2) in
      record {
        more = others.more;
        adds = add_then n (zip names payloads) held first.more others.more x first.adds others.adds;
        alike = others.alike;
      }
