-- When readings of a larger memory keep what was read before.
use Rattle.std.specs.Prelude.{◌≡◌, ℕ, Option, Some, [], ◌∷◌}
use Rattle.ro_machine.specs.Readings.{Readings}

-- what reads a word reads it still
abbrev pub Keeps : Option ℕ → Option ℕ → Type 0
Keeps o more = (n : ℕ) → o ≡ Some n → more ≡ Some n

-- each reading keeps its word
abbrev pub KeepEach : Readings → Readings → Type 0
KeepEach [] more = more ≡ []
KeepEach (o ∷ cells) more = (p : Option ℕ) × (rest : Readings) × (more ≡ p ∷ rest) × Keeps o p × KeepEach cells rest
