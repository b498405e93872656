-- More places than values: two places have one value.
use Rattle.std.proofs.Common.{◌≡◌, ◌≢◌, ◌⊎◌, inl, inr, ℕ, zero, suc, ◌<◌, ◌≤◌, sym, subst, ◌∙◌, arith}
use Rattle.std.proofs.lemmas.Bool.{cases_eq, cases_lt}

-- a value among the first so many, or not

abbrev IsAt : (ℕ → ℕ) → ℕ → ℕ → Type 0
IsAt f v m = (i : ℕ) × (i < m) × (f i ≡ v)

look : (f : ℕ → ℕ) (v m : ℕ) → IsAt f v m ⊎ ((i : ℕ) → i < m → f i ≢ v)
look f v zero = inr (λ i lt. absurd (omega arith))
look f v (suc m) = by_last (look f v m) (cases_eq (f m) v)
  where
    by_last : IsAt f v m ⊎ ((i : ℕ) → i < m → f i ≢ v) → (f m ≡ v) ⊎ (f m ≢ v) → IsAt f v (suc m) ⊎ ((i : ℕ) → i < suc m → f i ≢ v)
    by_last (inl found) last = inl (found.0, omega (arith, found.1), found.2)
    by_last (inr none) (inl here) = inl (m, omega arith, here)
    by_last (inr none) (inr other) = inr (λ i lt. by_place i lt (cases_lt i m))
      where
        by_place : (i : ℕ) → i < suc m → (i < m) ⊎ (m ≤ i) → f i ≢ v
        by_place i lt (inl before) = none i before
        by_place i lt (inr past) = let is : i ≡ m = omega arith in subst (λ j. f j ≢ v) (sym is) other

-- a value, with another one in place of n

abbrev pick : (a n b : ℕ) → (a ≡ n) ⊎ (a ≢ n) → ℕ
pick a n b (inl is) = b
pick a n b (inr other) = a

pick_below : (a n b : ℕ) (d : (a ≡ n) ⊎ (a ≢ n)) → a < suc n → b < suc n → a ≢ b → pick a n b d < n
pick_below a n b (inl is) la lb ne = omega arith
pick_below a n b (inr other) la lb ne = omega arith

pick_same : (a c n b : ℕ) (d : (a ≡ n) ⊎ (a ≢ n)) (e : (c ≡ n) ⊎ (c ≢ n)) → a ≢ b → c ≢ b → pick a n b d ≡ pick c n b e → a ≡ c
pick_same a c n b (inl one) (inl two) na nc same = one ∙ sym two
pick_same a c n b (inl one) (inr two) na nc same = absurd (nc (sym same))
pick_same a c n b (inr one) (inl two) na nc same = absurd (na same)
pick_same a c n b (inr one) (inr two) na nc same = same

abbrev pub AreTwo : (ℕ → ℕ) → ℕ → Type 0
AreTwo f n = (i j : ℕ) × (i < j) × (j ≤ n) × (f i ≡ f j)

pub two_places : (n : ℕ) (f : ℕ → ℕ) → ((i : ℕ) → i ≤ n → f i < n) → AreTwo f n
two_places zero f below = absurd (let lt = below 0 (omega arith) in omega arith)
two_places (suc n) f below = by_last (look f (f (suc n)) (suc n)) (two_places n (λ i. pick (f i) n (f (suc n)) (cases_eq (f i) n)))
  where
    by_two : ((i : ℕ) → i < suc n → f i ≢ f (suc n)) → AreTwo (λ i. pick (f i) n (f (suc n)) (cases_eq (f i) n)) n → AreTwo f (suc n)
    by_two none two =
        let i = two.0 in
        let j = two.1 in
        let before = two.2 in
        let within = two.3 in
        (i, j, two.2, omega arith, pick_same (f i) (f j) n (f (suc n)) (cases_eq (f i) n) (cases_eq (f j) n) (none i (omega arith)) (none j (omega arith)) two.4)

    by_last : IsAt f (f (suc n)) (suc n) ⊎ ((i : ℕ) → i < suc n → f i ≢ f (suc n)) → (((i : ℕ) → i ≤ n → pick (f i) n (f (suc n)) (cases_eq (f i) n) < n) → AreTwo (λ i. pick (f i) n (f (suc n)) (cases_eq (f i) n)) n) → AreTwo f (suc n)
    by_last (inl found) rest = (found.0, suc n, found.1, omega arith, found.2)
    by_last (inr none) rest = by_two none (rest (λ i le. pick_below (f i) n (f (suc n)) (cases_eq (f i) n) (below i (omega arith)) (below (suc n) (omega arith)) (none i (omega arith))))
