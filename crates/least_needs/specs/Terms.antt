-- Terms of statements, and where they lead. The statements are the numbers below the length of the list of their terms.
use Rattle.std.specs.Prelude.{◌≡◌, ℕ, ◌<◌, List, [], ◌∷◌, ◌++◌, map, slice_index_or}
use Rattle.std.specs.List.{Contains}
use Rattle.least_needs.specs.declared.terms.Targets.{Targets}
use Rattle.least_needs.specs.declared.terms.Targets.TheVariants.{Nowhere, One, Two}
use Rattle.least_needs.specs.declared.terms.Term.{Term}

-- the statements whose needs are added
abbrev pub listed : Targets → List ℕ
listed Nowhere = []
listed (One t) = t ∷ []
listed (Two t u) = t ∷ u ∷ []

-- the targets of all terms of a statement
abbrev pub all_targets : List Term → List ℕ
all_targets [] = []
all_targets (x ∷ xs) = listed x.targets ++ all_targets xs

-- each of these is below n
abbrev pub AreBelow : ℕ → List ℕ → Type 0
AreBelow n [] = Unit {0}
AreBelow n (t ∷ ts) = (t < n) × AreBelow n ts

-- each statement leads to the targets of its terms
abbrev pub graph_of : List (List Term) → List (List ℕ)
graph_of terms = map all_targets terms

-- the terms of a statement
abbrev pub terms_of : List (List Term) → ℕ → List Term
terms_of terms s = slice_index_or terms s []

-- A term that costs nothing leads to later statements alone.
abbrev pub FreeLeadOn : List (List Term) → Type 0
FreeLeadOn terms = (s : ℕ) (x : Term) (t : ℕ) → Contains (terms_of terms s) x → x.cost ≡ 0 → Contains (listed x.targets) t → s < t
