-- Variables that are held, each with a payload: a type, cells or a value.
use Rattle.std.specs.Prelude.{◌≡◌, ℕ, ◌+◌, ◌==◌, ◌≤◌, max, List, [], ◌∷◌, Option, Some, None, if◌then◌else◌}

-- pairs of a variable and its payload
abbrev pub Held : Type 0 → Type 0
Held A = List (ℕ × A)

-- each variable is above the one before, and the first is at least this one
abbrev pub RisesFrom : {A : Type 0} → ℕ → Held A → Type 0
RisesFrom least [] = Unit {0}
RisesFrom least (x ∷ xs) = (least ≤ x.0) × RisesFrom (x.0 + 1) xs

-- each variable is above the one before
abbrev pub IsRising : {A : Type 0} → Held A → Type 0
IsRising held = RisesFrom 0 held

-- the payload of a variable
abbrev pub get : {A : Type 0} → ℕ → Held A → Option A
get v [] = None
get v (x ∷ xs) = if v == x.0 then Some x.1 else get v xs

-- the same variables, and R of their payloads
abbrev pub Each : {A B : Type 0} → (A → B → Type 0) → Held A → Held B → Type 0
Each R [] [] = Unit {0}
Each R [] (y ∷ ys) = ⊥
Each R (x ∷ xs) [] = ⊥
Each R (x ∷ xs) (y ∷ ys) = (x.0 ≡ y.0) × R x.1 y.1 × Each R xs ys

-- a number of each payload, added up
abbrev pub total : {A : Type 0} → (A → ℕ) → Held A → ℕ
total f [] = 0
total f (x ∷ xs) = f x.1 + total f xs

-- the greatest of a number of each payload, 0 where nothing is held
abbrev pub greatest : {A : Type 0} → (A → ℕ) → Held A → ℕ
greatest f [] = 0
greatest f (x ∷ xs) = max (f x.1) (greatest f xs)
