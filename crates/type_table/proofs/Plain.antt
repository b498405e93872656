-- Options, pairs and results.
use Rattle.std.proofs.Common.{◌≡◌, List, [], ◌∷◌, Bool, true, false, true≢false, Some, None, Result, Ok, Err, OnOk, is_some, is_ok, unwrap_or, ap, sym}

pub none-some : {X : Type 0} (x : X) → None ≡ Some x → ⊥
none-some x h = true≢false (sym (ap is_some h))

pub some_is : {X : Type 0} (x y : X) → Some x ≡ Some y → x ≡ y
some_is x y h = ap (λ o. unwrap_or o x) h

pub pair_is : {A B : Type 0} (e : A × B) (a : A) (b : B) → e.0 ≡ a → e.1 ≡ b → e ≡ (a, b)
pair_is e a b first second = λ i. (first i, second i)

pub on_ok : {T E : Type 0} (r : Result T E) (P : Type 0) → P → OnOk r P
on_ok (Ok x) P p = p
on_ok (Err e) P p = tt

abbrev is_cons : {X : Type 0} → List X → Bool
is_cons [] = false
is_cons (x ∷ xs) = true

pub cons-nil : {X : Type 0} (x : X) (xs : List X) → x ∷ xs ≡ [] → ⊥
cons-nil x xs h = true≢false (ap is_cons h)

pub err-ok : {X Y : Type 0} (e : Y) (x : X) → Err e ≡ Ok x → ⊥
err-ok e x h = true≢false (sym (ap is_ok h))

abbrev ok_or : {X Y : Type 0} → X → Result X Y → X
ok_or other (Ok x) = x
ok_or other (Err e) = other

pub ok_is : {X Y : Type 0} (x y : X) → ◌≡◌ {A = Result X Y} (Ok x) (Ok y) → x ≡ y
ok_is x y h = ap (ok_or x) h

abbrev err_or : {X Y : Type 0} → Y → Result X Y → Y
err_or other (Ok x) = other
err_or other (Err e) = e

pub err_is : {X Y : Type 0} (e f : Y) → ◌≡◌ {A = Result X Y} (Err e) (Err f) → e ≡ f
err_is e f h = ap (err_or e) h
