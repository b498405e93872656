-- A memory that grows keeps each word that it lists.
use Rattle.std.specs.Prelude.{◌≡◌, ℕ, Option, Some}

-- each cell that the first lists, the second lists with the same word
abbrev pub Extends : (ℕ → Option ℕ) → (ℕ → Option ℕ) → Type 0
Extends m more = (a n : ℕ) → m a ≡ Some n → more a ≡ Some n
