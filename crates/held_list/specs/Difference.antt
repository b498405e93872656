-- The least variable at which two lists differ, said by look-ups alone.
use Rattle.std.specs.Prelude.{◌≡◌, ◌≢◌, ◌↔◌, ℕ, ◌<◌, Bool, IsTrue}
use Rattle.held_list.specs.Held.{Held, get}

-- the two have different payloads of this variable, or one of them doesn't hold it; below it they are alike
pub record IsLeastDifference {A : Type 0} (x y : Held A) (v : ℕ) : Type 0 where
  pub differs : get v x ≢ get v y
  pub below : (w : ℕ) → w < v → get w x ≡ get w y

-- the test decides equality
abbrev pub DecidesEquality : {A : Type 0} → (A → A → Bool) → Type 0
DecidesEquality {A} eq = (a b : A) → IsTrue (eq a b) ↔ (a ≡ b)
