-- What each statement needs: the largest, over its terms, of the term's cost plus the needs of the term's targets.
use Rattle.std.specs.Prelude.{◌≡◌, ℕ, ◌+◌, ◌*◌, ◌-◌, ◌^◌, ◌<◌, ◌≤◌, max, min, List, [], ◌∷◌, length, slice_index}
use Rattle.least_needs.specs.declared.terms.Term.{Term}
use Rattle.least_needs.specs.Terms.{listed, terms_of}

-- the sum of the needs of some statements
abbrev pub sum_of : (ℕ → ℕ) → List ℕ → ℕ
sum_of need [] = 0
sum_of need (t ∷ ts) = need t + sum_of need ts

-- what a term comes to
abbrev pub amount : (ℕ → ℕ) → Term → ℕ
amount need x = x.cost + sum_of need (listed x.targets)

-- the greatest amount, and 0 where there is no term
abbrev pub largest : (ℕ → ℕ) → List Term → ℕ
largest need [] = 0
largest need (x ∷ xs) = max (amount need x) (largest need xs)

-- The numbers meet the equations.
abbrev pub Meets : List (List Term) → (ℕ → ℕ) → Type 0
Meets terms need = (s : ℕ) → s < length terms → need s ≡ largest need (terms_of terms s)

-- The numbers are large enough.
abbrev pub AtLeast : List (List Term) → (ℕ → ℕ) → Type 0
AtLeast terms need = (s : ℕ) → s < length terms → largest need (terms_of terms s) ≤ need s

-- The numbers meet the equations, and no numbers that are large enough are smaller anywhere.
pub record AreNeeds (terms : List (List Term)) (need : ℕ → ℕ) : Type 0 where
  pub meets : Meets terms need
  pub least : (other : ℕ → ℕ) → AtLeast terms other → (s : ℕ) → s < length terms → need s ≤ other s

-- With numbers that are large enough this falls from a statement to each of its targets, where a term that costs nothing
-- leads to later statements alone.
abbrev pub rank : List (List Term) → (ℕ → ℕ) → ℕ → ℕ
rank terms need s = (length terms + 1) * need s + (length terms - s)

-- the number from which on a need is too large
abbrev pub limit : ℕ
limit = 2 ^ 32

-- the numbers, each cut at the limit, of any that meet the equations
abbrev pub AreCutNeeds : List (List Term) → List ℕ → Type 0
AreCutNeeds terms needs = (need : ℕ → ℕ) → Meets terms need → (s : ℕ) → s < length terms → slice_index needs s ≡ min (need s) limit
