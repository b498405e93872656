-- The statements that wait, as a list of which the least may stand apart, at its head.
use Rattle.std.specs.Prelude.{◌≡◌, ℕ, ◌<◌, Bool, cond, IsTrue, List, ◌∷◌, Option, Some, None}
use Rattle.std.specs.List.{list_any}
use Rattle.std.specs.BTreeMap.{is_at}
use Rattle.std.specs.Ordering.{nat_cmp}

-- whether a statement is one of these
abbrev pub has : List ℕ → ℕ → Bool
has ks q = list_any (is_at (nat_cmp q)) ks

-- an update of what waits: of t it is b, and of all others as before
abbrev pub Updated : (ℕ → Bool) → (ℕ → Bool) → ℕ → Bool → Type 0
Updated before later t b = (q : ℕ) → later q ≡ cond (is_at (nat_cmp t) q) b (before q)

abbrev pub listed : Option ℕ → List ℕ → List ℕ
listed None others = others
listed (Some least) others = least ∷ others

abbrev pub IsBelowAll : ℕ → List ℕ → Type 0
IsBelowAll s ks = (q : ℕ) → IsTrue (has ks q) → s < q

-- what stands apart is below the others
abbrev pub IsApart : Option ℕ → List ℕ → Type 0
IsApart None others = Unit {0}
IsApart (Some least) others = IsBelowAll least others
