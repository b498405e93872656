-- What the comparison of two lists answers.
use Rattle.std.proofs.Common.{◌≡◌, ℕ, ◌+◌, ◌<◌, ◌≤◌, min, Bool, true, ◌&&◌, eqb, ◌↔◌, [], ◌∷◌, Some, None, refl, sym, ap, subst, ◌∙◌, arith, inl, inr}
use Rattle.std.proofs.lemmas.Bool.{cases_order, cases_Bool, cases_eq, and_parts, and_from, eq-eqb, false≢true}
use Rattle.std.proofs.lemmas.Bool.Decides.{nat_tests}
use Rattle.std.proofs.lemmas.Option.{none-some, same_Some}
use Rattle.held_list.specs.Held.{Held, RisesFrom, get}
use Rattle.held_list.specs.Difference.{DecidesEquality, IsLeastDifference}
use Rattle.held_list.specs.Editing.{differ}
use Rattle.held_list.proofs.Placing.{get-below}

abbrev heads_agree : {A : Type 0} → (A → A → Bool) → ℕ × A → ℕ × A → Bool
heads_agree eq x y = eqb x.0 y.0 && eq x.1 y.1

heads_equal : {A : Type 0} (eq : A → A → Bool) → DecidesEquality eq → (x y : ℕ × A) → heads_agree eq x y ≡ true → x ≡ y
heads_equal eq decides x y is =
    let parts = and_parts (eqb x.0 y.0) (eq x.1 y.1) is in
    let keys : x.0 ≡ y.0 = grind (arith, nat_tests) in
    let payloads = (decides x.1 y.1).0 parts.1 in
    ap (λ k. (k, x.1)) keys ∙ ap (λ p. (y.0, p)) payloads

pub differ_none : {A : Type 0} (eq : A → A → Bool) → DecidesEquality eq → (x y : Held A) → differ eq x y ≡ None → x ≡ y
differ_none eq decides [] [] is = refl
differ_none eq decides [] (y ∷ ys) is = absurd (none-some y.0 (sym is))
differ_none eq decides (x ∷ xs) [] is = absurd (none-some x.0 (sym is))
differ_none eq decides (x ∷ xs) (y ∷ ys) is =
    elim (cases_Bool (heads_agree eq x y)) [
      | inl agree ↦
          let here : differ eq (x ∷ xs) (y ∷ ys) ≡ differ eq xs ys = grind arith in
          let later = differ_none eq decides xs ys (sym here ∙ is) in
          let head = heads_equal eq decides x y agree in
          cc
      | inr not ↦
          let here : differ eq (x ∷ xs) (y ∷ ys) ≡ Some (min x.0 y.0) = grind arith in
          absurd (none-some (min x.0 y.0) (sym is ∙ here))
    ]

pub differ-same : {A : Type 0} (eq : A → A → Bool) → DecidesEquality eq → (x : Held A) → differ eq x x ≡ None
differ-same eq decides [] = refl
differ-same eq decides (x ∷ xs) =
    let payload = (decides x.1 x.1).1 refl in
    let agree : heads_agree eq x x ≡ true = grind (arith, nat_tests) in
    let later = differ-same eq decides xs in
    grind arith

pub differ_equal : {A : Type 0} (eq : A → A → Bool) → DecidesEquality eq → (x y : Held A) → (differ eq x y ≡ None) ↔ (x ≡ y)
differ_equal eq decides x y = (differ_none eq decides x y, (λ same. ap (differ eq x) (sym same) ∙ differ-same eq decides x))

-- where both lists rise from a number, the answer is not below it
differ_from : {A : Type 0} (eq : A → A → Bool) (x y : Held A) (least v : ℕ) → RisesFrom least x → RisesFrom least y → differ eq x y ≡ Some v → least ≤ v
differ_from eq [] [] least v rx ry is = absurd (none-some v is)
differ_from eq [] (y ∷ ys) least v rx ry is = omega (arith, ry.0, same_Some y.0 v is)
differ_from eq (x ∷ xs) [] least v rx ry is = omega (arith, rx.0, same_Some x.0 v is)
differ_from eq (x ∷ xs) (y ∷ ys) least v rx ry is =
    elim (cases_Bool (heads_agree eq x y)) [
      | inl agree ↦
          let here : differ eq (x ∷ xs) (y ∷ ys) ≡ differ eq xs ys = grind arith in
          let keys : x.0 ≡ y.0 = grind (arith, nat_tests) in
          let later = differ_from eq xs ys (x.0 + 1) v rx.1 (rw keys ry.1) (sym here ∙ is) in
          omega (arith, rx.0)
      | inr not ↦
          let here : differ eq (x ∷ xs) (y ∷ ys) ≡ Some (min x.0 y.0) = grind arith in
          omega (arith, rx.0, ry.0, same_Some (min x.0 y.0) v (sym here ∙ is))
    ]

get-first : {A : Type 0} (x : ℕ × A) (xs : Held A) (v : ℕ) → v ≡ x.0 → get v (x ∷ xs) ≡ Some x.1
get-first x xs v same = grind (arith, nat_tests)

get-later : {A : Type 0} (x : ℕ × A) (xs : Held A) (v : ℕ) → (v ≡ x.0 → ⊥) → get v (x ∷ xs) ≡ get v xs
get-later x xs v other = grind (arith, nat_tests)

least_sym : {A : Type 0} (x y : Held A) (v : ℕ) → IsLeastDifference x y v → IsLeastDifference y x v
least_sym x y v is = record { differs = λ same. is.differs (sym same); below = λ w lt. sym (is.below w lt) }

-- the first list begins below the second
begins_below : {A : Type 0} (x : ℕ × A) (xs y : Held A) (least : ℕ) → RisesFrom least (x ∷ xs) → RisesFrom (x.0 + 1) y → IsLeastDifference (x ∷ xs) y x.0
begins_below x xs y least rx ry =
    let first = get-first x xs x.0 refl in
    let absent = get-below y (x.0 + 1) x.0 ry (omega arith) in
    record {
      differs = λ same. none-some x.1 (sym absent ∙ sym same ∙ first);
      below = λ w lt. get-below (x ∷ xs) x.0 w (omega arith, rx.1) lt ∙ sym (get-below y (x.0 + 1) w ry (omega arith));
    }

-- the same first pair
below_head : {A : Type 0} (x : ℕ × A) (xs ys : Held A) (v : ℕ) → x.0 < v → IsLeastDifference xs ys v → IsLeastDifference (x ∷ xs) (x ∷ ys) v
below_head x xs ys v lt is = record {
  differs = λ same. is.differs (sym (get-later x xs v (omega arith)) ∙ same ∙ get-later x ys v (omega arith));
  below = λ w below.
      elim (cases_eq w x.0) [
        | inl here ↦ get-first x xs w here ∙ sym (get-first x ys w here)
        | inr other ↦ get-later x xs w other ∙ is.below w below ∙ sym (get-later x ys w other)
      ];
}

-- the same first variable with other payloads
other_payload : {A : Type 0} (x y : ℕ × A) (xs ys : Held A) → x.0 ≡ y.0 → (x.1 ≡ y.1 → ⊥) → RisesFrom x.0 (x ∷ xs) → RisesFrom x.0 (y ∷ ys) → IsLeastDifference (x ∷ xs) (y ∷ ys) x.0
other_payload x y xs ys same other rx ry = record {
  differs = λ e. other (same_Some x.1 y.1 (sym (get-first x xs x.0 refl) ∙ e ∙ get-first y ys x.0 same));
  below = λ w lt. get-below (x ∷ xs) x.0 w rx lt ∙ sym (get-below (y ∷ ys) x.0 w ry lt);
}

pub differ_least : {A : Type 0} (eq : A → A → Bool) → DecidesEquality eq → (x y : Held A) (least v : ℕ) → RisesFrom least x → RisesFrom least y → differ eq x y ≡ Some v → IsLeastDifference x y v
differ_least eq decides [] [] least v rx ry is = absurd (none-some v is)
differ_least eq decides [] (y ∷ ys) least v rx ry is =
    subst (IsLeastDifference [] (y ∷ ys)) (same_Some y.0 v is) (least_sym (y ∷ ys) [] y.0 (begins_below y ys [] least ry tt))
differ_least eq decides (x ∷ xs) [] least v rx ry is = subst (IsLeastDifference (x ∷ xs) []) (same_Some x.0 v is) (begins_below x xs [] least rx tt)
differ_least eq decides (x ∷ xs) (y ∷ ys) least v rx ry is =
    elim (cases_Bool (heads_agree eq x y)) [
      | inl agree ↦
          let here : differ eq (x ∷ xs) (y ∷ ys) ≡ differ eq xs ys = grind arith in
          let heads = heads_equal eq decides x y agree in
          let ry' : RisesFrom (x.0 + 1) ys = rw (ap (λ (p : ℕ × _). p.0) heads) ry.1 in
          let above = differ_from eq xs ys (x.0 + 1) v rx.1 ry' (sym here ∙ is) in
          let later = differ_least eq decides xs ys (x.0 + 1) v rx.1 ry' (sym here ∙ is) in
          subst (λ h. IsLeastDifference (x ∷ xs) (h ∷ ys) v) heads (below_head x xs ys v (omega (arith, above)) later)
      | inr not ↦
          let here : differ eq (x ∷ xs) (y ∷ ys) ≡ Some (min x.0 y.0) = grind arith in
          let v_is = same_Some (min x.0 y.0) v (sym here ∙ is) in
          elim (cases_order x.0 y.0) [
            | inl same ↦
                let other : x.1 ≡ y.1 → ⊥ = λ e. (let agree = (decides x.1 y.1).1 e in false≢true (sym not ∙ and_from (eqb x.0 y.0) (eq x.1 y.1) (eq-eqb x.0 y.0 same) agree)) in
                let v_is_x : x.0 ≡ v = omega arith in
                subst (IsLeastDifference (x ∷ xs) (y ∷ ys)) v_is_x (other_payload x y xs ys same other (omega arith, rx.1) (omega arith, ry.1))
            | inr (inl lower) ↦
                let v_is_x : x.0 ≡ v = omega arith in
                subst (IsLeastDifference (x ∷ xs) (y ∷ ys)) v_is_x (begins_below x xs (y ∷ ys) least rx (omega arith, ry.1))
            | inr (inr higher) ↦
                let v_is_y : y.0 ≡ v = omega arith in
                subst (IsLeastDifference (x ∷ xs) (y ∷ ys)) v_is_y (least_sym (y ∷ ys) (x ∷ xs) y.0 (begins_below y ys (x ∷ xs) least ry (omega arith, rx.1)))
          ]
    ]
