-- The walk stops, and in one way only.
use Rattle.std.proofs.Common.{◌≡◌, ℕ, zero, suc, ◌<◌, ◌≤◌, List, Result, Ok, refl, sym, ap, subst, ◌∙◌, arith, inl, inr, ◌⊎◌, ◌↔◌}
use Rattle.std.proofs.lemmas.Bool.{cases_lt}
use Rattle.statement_walk.specs.Rules.{Rules, Lawful}
use Rattle.statement_walk.specs.Annotates.{Annotates}
use Rattle.statement_walk.specs.Walk.{State, Turn, go, stop, turn_of, next_of, after, Stops}
use Rattle.statement_walk.proofs.Ends.{sound, complete}
use Rattle.statement_walk.proofs.Left.{left, left_falls}
use Rattle.statement_walk.proofs.Turns.{Happens, happens}

pub after-go : {E F : Type 0} (r : Rules E F) (n : ℕ) (v : State E) → turn_of r (after r n) ≡ go v → after r (suc n) ≡ v
unfolding after
after-go r n v is = ap (λ t. next_of t (after r n)) is

pub after-stop : {E F : Type 0} (r : Rules E F) (n : ℕ) (x : Result (List (ℕ × E)) F) → turn_of r (after r n) ≡ stop x → after r (suc n) ≡ after r n
unfolding after
after-stop r n x is = ap (λ t. next_of t (after r n)) is

-- a turn leaves less, or the walk stops
stops_or_falls : {E F : Type 0} (r : Rules E F) → Lawful r → (n : ℕ) → (left r (after r (suc n)) < left r (after r n)) ⊎ ((x : Result (List (ℕ × E)) F) × Stops r x)
stops_or_falls {E} {F} r lawful n = at (turn_of r (after r n)) refl
  where
    at : (t : Turn E F) → turn_of r (after r n) ≡ t → (left r (after r (suc n)) < left r (after r n)) ⊎ ((x : Result (List (ℕ × E)) F) × Stops r x)
    at (go v) is =
        let falls = left_falls r lawful (after r n) v (subst (Happens r (after r n)) is (happens r (after r n))) in
        inl (rw (after-go r n v is) falls)
    at (stop x) is = inr (x, (n, is))

stops_within : {E F : Type 0} (r : Rules E F) → Lawful r → (m n : ℕ) → left r (after r n) < m → (x : Result (List (ℕ × E)) F) × Stops r x
stops_within r lawful zero n lt = absurd (omega arith)
stops_within r lawful (suc m) n lt =
    elim (stops_or_falls r lawful n) [
      | inl falls ↦ stops_within r lawful m (suc n) (omega (arith, falls))
      | inr stops ↦ stops
    ]

pub stops_some : {E F : Type 0} (r : Rules E F) → Lawful r → (x : Result (List (ℕ × E)) F) × Stops r x
stops_some r lawful = stops_within r lawful (suc (left r (after r 0))) 0 (omega arith)

stays : {E F : Type 0} (r : Rules E F) (x : Result (List (ℕ × E)) F) (n m : ℕ) → n ≤ m → turn_of r (after r n) ≡ stop x → after r m ≡ after r n
stays r x n zero le is = let same : 0 ≡ n = omega arith in ap (after r) same
stays r x n (suc m) le is =
    elim (cases_lt m n) [
      | inl here ↦ (let same : suc m ≡ n = omega arith in ap (after r) same)
      | inr earlier ↦
          let before = stays r x n m earlier is in
          after-stop r m x (ap (turn_of r) before ∙ is) ∙ before
    ]

same_stop : {E F : Type 0} (x y : Result (List (ℕ × E)) F) → ◌≡◌ {A = Turn E F} (stop x) (stop y) → x ≡ y
same_stop x y is = cc

stops_later : {E F : Type 0} (r : Rules E F) (x y : Result (List (ℕ × E)) F) (n m : ℕ) → n ≤ m → turn_of r (after r n) ≡ stop x → turn_of r (after r m) ≡ stop y → x ≡ y
stops_later r x y n m le here later = same_stop x y (sym here ∙ ap (turn_of r) (sym (stays r x n m le here)) ∙ later)

pub stops_same : {E F : Type 0} (r : Rules E F) (x y : Result (List (ℕ × E)) F) → Stops r x → Stops r y → x ≡ y
stops_same r x y here there =
    elim (cases_lt here.0 there.0) [
      | inl less ↦ stops_later r x y here.0 there.0 (omega arith) here.1 there.1
      | inr more ↦ sym (stops_later r y x there.0 here.0 more there.1 here.1)
    ]

pub joins : {E F : Type 0} (r : Rules E F) → Lawful r → (a : List (ℕ × E)) → Annotates r a ↔ Stops r (Ok a)
joins r lawful a = (
  (λ fits. (let some = stops_some r lawful in subst (Stops r) (complete r lawful a fits some.0 some.1) some.1)),
  sound r lawful a,
)

pub one_list : {E F : Type 0} (r : Rules E F) → Lawful r → (a b : List (ℕ × E)) → Annotates r a → Annotates r b → a ≡ b
one_list r lawful a b x y =
    let same = stops_same r (Ok a) (Ok b) ((joins r lawful a).0 x) ((joins r lawful b).0 y) in
    cc
