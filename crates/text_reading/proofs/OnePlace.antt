-- A text has one place of a refusal.
use Rattle.std.proofs.Common.{◌≡◌, ℕ, ◌-◌, List, [], ◌∷◌, ◌++◌, length, take, refl, sym, ◌∙◌, ap, subst, append_assoc, arith, inl, inr, ◌⊎◌}
use Rattle.std.proofs.lemmas.List.{length-append, take_at}
use Rattle.text_reading.specs.Places.{IsPlace}

-- one list is longer than the other by these bytes
abbrev Longer : List ℕ → List ℕ → List ℕ → List ℕ → Type 0
Longer front rest other other_rest = (byte : ℕ) × (more : List ℕ) × (other ≡ front ++ (byte ∷ more)) × (rest ≡ byte ∷ (more ++ other_rest))

split : (front rest other other_rest : List ℕ) → front ++ rest ≡ other ++ other_rest
    → ((front ≡ other) × (rest ≡ other_rest)) ⊎ (Longer front rest other other_rest ⊎ Longer other other_rest front rest)
split [] rest [] other_rest same = inl (refl, same)
split [] rest (byte ∷ other) other_rest same = inr (inl (byte, other, refl, same))
split (byte ∷ front) rest [] other_rest same = inr (inr (byte, front, refl, sym same))
split (byte ∷ front) rest (c ∷ other) other_rest same = go (split front rest other other_rest tails)
  where
    heads : byte ≡ c
    heads = cc

    tails : front ++ rest ≡ other ++ other_rest
    tails = cc

    go : ((front ≡ other) × (rest ≡ other_rest)) ⊎ (Longer front rest other other_rest ⊎ Longer other other_rest front rest)
        → ((byte ∷ front ≡ c ∷ other) × (rest ≡ other_rest)) ⊎ (Longer (byte ∷ front) rest (c ∷ other) other_rest ⊎ Longer (c ∷ other) other_rest (byte ∷ front) rest)
    go (inl both) = let tail = both.0 in inl (cc, both.1)
    go (inr (inl l)) = let tail = l.2 in inr (inl (l.0, l.1, cc, l.3))
    go (inr (inr l)) = let tail = l.2 in inr (inr (l.0, l.1, cc, l.3))

-- a longer front isn't continued
no_longer : {A : Type 0} (IsText : A → List ℕ → Type 0) (text front rest other other_rest : List ℕ) → IsPlace IsText text front rest → IsPlace IsText text other other_rest
    → Longer front rest other other_rest → ⊥
no_longer IsText text front rest other other_rest place other_place l =
    let goes = other_place.before in
    let whole : other ++ goes.1 ≡ (front ++ (l.0 ∷ [])) ++ (l.1 ++ goes.1) =
    ap (λ (t : List ℕ). t ++ goes.1) l.2 ∙ append_assoc front (l.0 ∷ l.1) goes.1 ∙ sym (append_assoc front (l.0 ∷ []) (l.1 ++ goes.1)) in
    place.longest l.0 (l.1 ++ other_rest) l.3 (goes.0, l.1 ++ goes.1, subst (λ (t : List ℕ). IsText goes.0 t) whole goes.2)

pub one_place : {A : Type 0} (IsText : A → List ℕ → Type 0) (text front rest other other_rest : List ℕ) → IsPlace IsText text front rest → IsPlace IsText text other other_rest
    → (front ≡ other) × (rest ≡ other_rest)
one_place IsText text front rest other other_rest place other_place =
    go (split front rest other other_rest (sym place.parts ∙ other_place.parts))
  where
    go : ((front ≡ other) × (rest ≡ other_rest)) ⊎ (Longer front rest other other_rest ⊎ Longer other other_rest front rest) → (front ≡ other) × (rest ≡ other_rest)
    go (inl both) = both
    go (inr (inl l)) = absurd (no_longer IsText text front rest other other_rest place other_place l)
    go (inr (inr l)) = absurd (no_longer IsText text other other_rest front rest other_place place l)

-- what stands before the bytes that are left
pub front_is : (text front rest : List ℕ) → text ≡ front ++ rest → take (length text - length rest) text ≡ front
front_is text front rest parts =
    let size : length text - length rest ≡ length front = omega (arith, ap length parts, length-append front rest) in
    rw (size, parts) (take_at front rest (length front) refl)
