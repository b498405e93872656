-- Where a variable is in a rising list, or where it goes.
use Rattle.std.specs.Prelude.{◌≡◌, ℕ, zero, suc, ◌<◌, [], ◌∷◌}
use Rattle.held_list.specs.Held.{Held}

-- the variable is the one at this index, and those before it are lower
abbrev pub IsAt : {A : Type 0} → ℕ → Held A → ℕ → Type 0
IsAt v [] at = ⊥
IsAt v (x ∷ xs) zero = v ≡ x.0
IsAt v (x ∷ xs) (suc at) = (x.0 < v) × IsAt v xs at

-- the variables before this index are lower, and the one at it, if there is one, is higher
abbrev pub IsGap : {A : Type 0} → ℕ → Held A → ℕ → Type 0
IsGap v [] at = at ≡ 0
IsGap v (x ∷ xs) zero = v < x.0
IsGap v (x ∷ xs) (suc at) = (x.0 < v) × IsGap v xs at
