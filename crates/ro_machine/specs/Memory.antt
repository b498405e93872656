-- What is known of the cells of every memory.
use Rattle.std.specs.Prelude.{◌≡◌, ℕ, ◌<◌, Option, Some}
use Rattle.felt64.specs.Field.{modulus}

-- addresses and words are in the field
abbrev pub IsMemory : (ℕ → Option ℕ) → Type 0
IsMemory m = (a n : ℕ) → m a ≡ Some n → (a < modulus) × (n < modulus)
