-- What is read is what was written, and what was written is read again.
use Rattle.std.proofs.Common.{◌≡◌, ℕ, zero, suc, ◌+◌, ◌^◌, ◌<◌, ◌≤◌, Bool, true, false, cond, ltb, List, [], ◌∷◌, ◌++◌, length, get_or, take, drop, Result, Ok, Err, refl, sym, ap, subst, ◌∙◌, append_assoc, arith, inl, inr}
use Rattle.std.specs.Int.{w64, from_le_bytes, to_le_bytes}
use Rattle.std.specs.List.{flat_map}
use Rattle.std.proofs.lemmas.Bool.{cases_lt, ltb-false, le-ltb}
use Rattle.std.proofs.lemmas.List.{take_at, drop_at, take-append-drop, length-append, length-take, get_or-drop, get_or-take, get_or_past}
use Rattle.std.proofs.lemmas.List.Concat.{flat_map-cons}
use Rattle.std.proofs.lemmas.Nat.{le_bytes_8, from_le_bytes-to_le_bytes_8}
use Rattle.byte_reading.specs.Reading.{Place, ◌>>=◌, number_at, counted, InTurn}

-- ---- values and faults

-- the value of a reading that went on
pub bind_ok : {A B E : Type 0} (r : Result A E) (f : A → Result B E) (y : B) → (r >>= f) ≡ Ok y → (x : A) × (r ≡ Ok x) × (f x ≡ Ok y)
bind_ok (Ok x) f y e = (x, refl, e)
bind_ok (Err d) f y e = absurd cc

-- readings go on one after the other
pub bind_bind : {A B C E : Type 0} (r : Result A E) (f : A → Result B E) (g : B → Result C E) → ((r >>= f) >>= g) ≡ (r >>= λ x. f x >>= g)
bind_bind (Ok x) f g = refl
bind_bind (Err e) f g = refl

-- a test that did not fail
pub guard_ok : {A E : Type 0} (b : Bool) (d : E) (x y : A) → cond b (Err d) (Ok x) ≡ Ok y → (b ≡ false) × (x ≡ y)
guard_ok true d x y e = absurd cc
guard_ok false d x y e = (refl, cc)

pub guard_passed : {A E : Type 0} (b : Bool) (d : E) (x y : A) → cond b (Ok x) (Err d) ≡ Ok y → (b ≡ true) × (x ≡ y)
guard_passed true d x y e = (refl, cc)
guard_passed false d x y e = absurd cc

pub ok_is : {A E : Type 0} (x y : A) → ◌≡◌ {A = Result A E} (Ok x) (Ok y) → x ≡ y
ok_is x y e = cc

-- ---- bytes

abbrev pub IsBytes : List ℕ → Type 0
IsBytes bytes = (i : ℕ) → get_or bytes i 0 < 256

pub IsBytes-drop : (n : ℕ) (bytes : List ℕ) → IsBytes bytes → IsBytes (drop n bytes)
IsBytes-drop n bytes fits i = rw get_or-drop (fits (n + i))

pub IsBytes-take : (n : ℕ) (bytes : List ℕ) → IsBytes bytes → IsBytes (take n bytes)
IsBytes-take n bytes fits i =
    elim (cases_lt i n) [
      | inl lt ↦ rw (get_or-take n bytes i 0 lt) (fits i)
      | inr le ↦ rw (get_or_past (take n bytes) i 0 (omega (arith, length-take n bytes))) (omega arith)
    ]

-- ---- what a reader takes, and that it reads it again

-- the bytes from p to q are the text
pub record Takes (p : Place) (text : List ℕ) (q : Place) : Type 0 where
  pub parts : p.rest ≡ text ++ q.rest
  pub rest_fits : IsBytes q.rest

pub Takes-then : (p : Place) (x : List ℕ) (q : Place) (y : List ℕ) (r : Place) → Takes p x q → Takes q y r → Takes p (x ++ y) r
Takes-then p x q y r first second = record {
  parts = first.parts ∙ ap (λ (t : List ℕ). x ++ t) second.parts ∙ sym (append_assoc x y r.rest);
  rest_fits = second.rest_fits;
}

-- the text is read as x, whatever stands before and behind it
abbrev pub Again : {A E : Type 0} → (Place → Result (A × Place) E) → List ℕ → A → Type 0
Again reader text x = (at : ℕ) (rest : List ℕ) → (next : ℕ) × (reader (record { at = at; rest = text ++ rest }) ≡ Ok (x, record { at = next; rest = rest }))

-- ---- numbers

number_back : (bytes : List ℕ) → length bytes ≡ 8 → IsBytes bytes → to_le_bytes w64 (from_le_bytes w64 bytes) ≡ bytes
number_back bytes len fits = le_bytes_8 bytes _ len fits refl

number_below : (bytes : List ℕ) → IsBytes bytes → from_le_bytes w64 bytes < 2 ^ 64
number_below bytes fits = omega (arith, fits 0, fits 1, fits 2, fits 3, fits 4, fits 5, fits 6, fits 7)

pub number_takes : {E : Type 0} (cut : ℕ → E) (p : Place) (x : ℕ × Place) → IsBytes p.rest → number_at cut p ≡ Ok x → Takes p (to_le_bytes w64 x.0) x.1 × (x.0 < 2 ^ 64)
number_takes cut p x fits e =
    let front : List ℕ = take 8 p.rest in
    let after : Place = record { at = p.at + 8; rest = drop 8 p.rest } in
    let g = guard_ok (ltb (length p.rest) 8) (cut (p.at + length p.rest)) (from_le_bytes w64 front, after) x e in
    let long : 8 ≤ length p.rest = ltb-false _ _ g.0 in
    let same : to_le_bytes w64 (from_le_bytes w64 front) ≡ front = number_back front (omega (arith, length-take 8 p.rest)) (IsBytes-take 8 p.rest fits) in
    let first : Takes p (to_le_bytes w64 (from_le_bytes w64 front)) after = record { parts = sym (take-append-drop 8 p.rest) ∙ ap (λ (t : List ℕ). t ++ drop 8 p.rest) (sym same); rest_fits = IsBytes-drop 8 p.rest fits } in
    subst (λ (y : ℕ × Place). Takes p (to_le_bytes w64 y.0) y.1 × (y.0 < 2 ^ 64)) g.1 (first, number_below front (IsBytes-take 8 p.rest fits))

-- eight bytes are a number
pub number_step : {E : Type 0} (cut : ℕ → E) (at : ℕ) (front rest : List ℕ) → length front ≡ 8 → number_at cut (record { at = at; rest = front ++ rest }) ≡ Ok (from_le_bytes w64 front, record { at = at + 8; rest = rest })
number_step cut at front rest len =
    let long : ltb (length (front ++ rest)) 8 ≡ false = le-ltb _ _ (omega (arith, length-append front rest)) in
    rw (long, take_at front rest 8 len, drop_at front rest 8 len) refl

pub number_again : {E : Type 0} (cut : ℕ → E) (n : ℕ) → n < 2 ^ 64 → Again (number_at cut) (to_le_bytes w64 n) n
number_again cut n lt at rest =
    (at + 8, number_step cut at (to_le_bytes w64 n) rest refl ∙ ap (λ (m : ℕ). Ok (m, record { at = at + 8; rest = rest })) (from_le_bytes-to_le_bytes_8 n lt))

-- ---- so many items

module _ {S A E : Type 0} (item : S → Place → Result (A × Place) E) (after : A → S) (text : A → List ℕ) (Fits : S → A → Type 0) where
  pub counted_take : ((state : S) (p : Place) (x : A × Place) → IsBytes p.rest → item state p ≡ Ok x → Takes p (text x.0) x.1 × Fits state x.0) → (state : S) (n : ℕ) (p : Place) (x : List A × Place) → IsBytes p.rest → counted item after state n p ≡ Ok x → Takes p (flat_map text x.0) x.1 × (length x.0 ≡ n) × InTurn Fits after state x.0
  unfolding counted
  counted_take takes state zero p x fits e =
      subst (λ (y : List A × Place). Takes p (flat_map text y.0) y.1 × (length y.0 ≡ 0) × InTurn Fits after state y.0) (ok_is {E = E} ([], p) x e) (record { parts = refl; rest_fits = fits }, refl, tt)
  counted_take takes state (suc n) p x fits e =
      let a = bind_ok (item state p) (λ first. counted item after (after first.0) n first.1 >>= λ others. Ok (first.0 ∷ others.0, others.1)) x e in
      let b = bind_ok (counted item after (after a.0.0) n a.0.1) (λ others. Ok (a.0.0 ∷ others.0, others.1)) x a.2 in
      let first = takes state p a.0 fits a.1 in
      let second = counted_take takes (after a.0.0) n a.0.1 b.0 first.0.rest_fits b.1 in
      let both = Takes-then p (text a.0.0) a.0.1 (flat_map text b.0.0) b.0.1 first.0 second.0 in
      let made : List A × Place = (a.0.0 ∷ b.0.0, b.0.1) in
      subst (λ (y : List A × Place). Takes p (flat_map text y.0) y.1 × (length y.0 ≡ suc n) × InTurn Fits after state y.0) (ok_is {E = E} made x b.2) (rw flat_map-cons both, ap suc second.1, (first.1, second.2))

  pub counted_again : ((state : S) (x : A) → Fits state x → Again (item state) (text x) x) → (state : S) (xs : List A) → InTurn Fits after state xs → Again (counted item after state (length xs)) (flat_map text xs) xs
  unfolding counted
  counted_again again state [] fits at rest = (at, refl)
  counted_again again state (x ∷ xs) fits at rest =
      let first = again state x fits.0 at (flat_map text xs ++ rest) in
      let others = counted_again again (after x) xs fits.1 first.0 rest in
      let regrouped : flat_map text (x ∷ xs) ++ rest ≡ text x ++ (flat_map text xs ++ rest) = ap (λ (t : List ℕ). t ++ rest) (flat_map-cons text x xs) ∙ append_assoc (text x) (flat_map text xs) rest in
      (others.0, ap (λ (bytes : List ℕ). counted item after state (length (x ∷ xs)) (record { at = at; rest = bytes })) regrouped ∙ rw (first.1, others.1) refl)
