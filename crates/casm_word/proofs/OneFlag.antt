-- Of a few flags of one kind at most one is set: what the bits say, and what each kind adds to a word.
use Rattle.std.proofs.Common.{◌≡◌, ◌⊎◌, ℕ, suc, zero, ◌+◌, ◌<◌, Some, None, refl, sym, subst, ◌∙◌, inl, inr, arith}
use Rattle.casm_word.specs.Rules.{IsBitSet}
use Rattle.casm_word.specs.Decoding.{field, one_of_three, one_of_two}
use Rattle.casm_word.proofs.Fields.{bit_of_field}

-- two of the three bits from a place on are set
abbrev pub Two : ℕ → ℕ → Type 0
Two word at =
    (IsBitSet word (at + 0) × IsBitSet word (at + 1))
    ⊎ (IsBitSet word (at + 0) × IsBitSet word (at + 2))
    ⊎ (IsBitSet word (at + 1) × IsBitSet word (at + 2))

abbrev pub Both : ℕ → ℕ → Type 0
Both word at = IsBitSet word (at + 0) × IsBitSet word (at + 1)

-- a fact of each number below 8 or 4
below_8 : (P : ℕ → Type 0) → P 0 → P 1 → P 2 → P 3 → P 4 → P 5 → P 6 → P 7 → (n : ℕ) → n < 8 → P n
below_8 P a b c d e f g h zero lt = a
below_8 P a b c d e f g h (suc zero) lt = b
below_8 P a b c d e f g h (suc (suc zero)) lt = c
below_8 P a b c d e f g h (suc (suc (suc zero))) lt = d
below_8 P a b c d e f g h (suc (suc (suc (suc zero)))) lt = e
below_8 P a b c d e f g h (suc (suc (suc (suc (suc zero))))) lt = f
below_8 P a b c d e f g h (suc (suc (suc (suc (suc (suc zero)))))) lt = g
below_8 P a b c d e f g h (suc (suc (suc (suc (suc (suc (suc zero))))))) lt = h
below_8 P a b c d e f g h (suc (suc (suc (suc (suc (suc (suc (suc n)))))))) lt = absurd (omega arith)

below_4 : (P : ℕ → Type 0) → P 0 → P 1 → P 2 → P 3 → (n : ℕ) → n < 4 → P n
below_4 P a b c d zero lt = a
below_4 P a b c d (suc zero) lt = b
below_4 P a b c d (suc (suc zero)) lt = c
below_4 P a b c d (suc (suc (suc zero))) lt = d
below_4 P a b c d (suc (suc (suc (suc n)))) lt = absurd (omega arith)

-- the bits of a field are those of the word
module _ (word at : ℕ) where
  pub two_in : Two (field word at 3) 0 → Two word at
  two_in (inl (i, j)) = inl (sym (bit_of_field word at 3 0 (omega arith)) ∙ i, sym (bit_of_field word at 3 1 (omega arith)) ∙ j)
  two_in (inr (inl (i, k))) = inr (inl (sym (bit_of_field word at 3 0 (omega arith)) ∙ i, sym (bit_of_field word at 3 2 (omega arith)) ∙ k))
  two_in (inr (inr (j, k))) = inr (inr (sym (bit_of_field word at 3 1 (omega arith)) ∙ j, sym (bit_of_field word at 3 2 (omega arith)) ∙ k))

  pub two_of : Two word at → Two (field word at 3) 0
  two_of (inl (i, j)) = inl (bit_of_field word at 3 0 (omega arith) ∙ i, bit_of_field word at 3 1 (omega arith) ∙ j)
  two_of (inr (inl (i, k))) = inr (inl (bit_of_field word at 3 0 (omega arith) ∙ i, bit_of_field word at 3 2 (omega arith) ∙ k))
  two_of (inr (inr (j, k))) = inr (inr (bit_of_field word at 3 1 (omega arith) ∙ j, bit_of_field word at 3 2 (omega arith) ∙ k))

  pub both_in : Both (field word at 2) 0 → Both word at
  both_in (i, j) = (sym (bit_of_field word at 2 0 (omega arith)) ∙ i, sym (bit_of_field word at 2 1 (omega arith)) ∙ j)

  pub both_of : Both word at → Both (field word at 2) 0
  both_of (i, j) = (bit_of_field word at 2 0 (omega arith) ∙ i, bit_of_field word at 2 1 (omega arith) ∙ j)

not_two : (n : ℕ) → (IsBitSet n 0 → IsBitSet n 1 → ⊥) → (IsBitSet n 0 → IsBitSet n 2 → ⊥) → (IsBitSet n 1 → IsBitSet n 2 → ⊥) → ¬ Two n 0
not_two n a b c (inl (i, j)) = a i j
not_two n a b c (inr (inl (i, k))) = b i k
not_two n a b c (inr (inr (j, k))) = c j k

module _ {A : Type 0} (none first second third : A) where
  -- no value: two flags are set
  pub three_none : (bits : ℕ) → bits < 8 → one_of_three bits none first second third ≡ None → Two bits 0
  three_none =
      below_8 (λ n. one_of_three n none first second third ≡ None → Two n 0)
      (λ is. cc) (λ is. cc) (λ is. cc) (λ is. inl (refl, refl)) (λ is. cc) (λ is. inr (inl (refl, refl))) (λ is. inr (inr (refl, refl))) (λ is. inl (refl, refl))

  -- a value: no two flags are set
  pub three_some : (x : A) (bits : ℕ) → bits < 8 → one_of_three bits none first second third ≡ Some x → ¬ Two bits 0
  three_some x =
      below_8 (λ n. one_of_three n none first second third ≡ Some x → ¬ Two n 0)
      (λ is. not_two 0 (λ i j. cc) (λ i k. cc) (λ j k. cc)) (λ is. not_two 1 (λ i j. cc) (λ i k. cc) (λ j k. cc)) (λ is. not_two 2 (λ i j. cc) (λ i k. cc) (λ j k. cc))
      (λ is. cc) (λ is. not_two 4 (λ i j. cc) (λ i k. cc) (λ j k. cc)) (λ is. cc) (λ is. cc) (λ is. cc)

  -- which value it is says which flag is set
  pub three_code : (code : A → ℕ) → code none ≡ 0 → code first ≡ 1 → code second ≡ 2 → code third ≡ 4 → (x : A) (bits : ℕ) → bits < 8 → one_of_three bits none first second third ≡ Some x → bits ≡ code x
  three_code code zeroth one two four x =
      below_8 (λ n. one_of_three n none first second third ≡ Some x → n ≡ code x)
      (λ is. let same : none ≡ x = cc in sym (subst (λ y. code y ≡ 0) same zeroth))
      (λ is. let same : first ≡ x = cc in sym (subst (λ y. code y ≡ 1) same one))
      (λ is. let same : second ≡ x = cc in sym (subst (λ y. code y ≡ 2) same two))
      (λ is. cc)
      (λ is. let same : third ≡ x = cc in sym (subst (λ y. code y ≡ 4) same four))
      (λ is. cc) (λ is. cc) (λ is. cc)

module _ {A : Type 0} (none first second : A) where
  pub two_none : (bits : ℕ) → bits < 4 → one_of_two bits none first second ≡ None → Both bits 0
  two_none = below_4 (λ n. one_of_two n none first second ≡ None → Both n 0) (λ is. cc) (λ is. cc) (λ is. cc) (λ is. (refl, refl))

  pub two_some : (x : A) (bits : ℕ) → bits < 4 → one_of_two bits none first second ≡ Some x → ¬ Both bits 0
  two_some x =
      below_4 (λ n. one_of_two n none first second ≡ Some x → ¬ Both n 0)
      (λ is both. let i = both.0 in cc) (λ is both. let j = both.1 in cc) (λ is both. let i = both.0 in cc) (λ is both. cc)

  pub two_code : (code : A → ℕ) → code none ≡ 0 → code first ≡ 1 → code second ≡ 2 → (x : A) (bits : ℕ) → bits < 4 → one_of_two bits none first second ≡ Some x → bits ≡ code x
  two_code code zeroth one two x =
      below_4 (λ n. one_of_two n none first second ≡ Some x → n ≡ code x)
      (λ is. let same : none ≡ x = cc in sym (subst (λ y. code y ≡ 0) same zeroth))
      (λ is. let same : first ≡ x = cc in sym (subst (λ y. code y ≡ 1) same one))
      (λ is. let same : second ≡ x = cc in sym (subst (λ y. code y ≡ 2) same two))
      (λ is. cc)
