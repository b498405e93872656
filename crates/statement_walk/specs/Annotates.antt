-- A list that gives each statement its function and its environment, such that the rules hold.
use Rattle.std.specs.Prelude.{◌≡◌, ℕ, ◌<◌, List, [], ◌∷◌, length, Option, Some, Result, Ok, Err}
use Rattle.std.specs.List.{slice_get}
use Rattle.statement_walk.specs.Rules.{Rules}

-- No part is a fault, and each target has this function and the environment that leads there. What statements have is
-- given by `at`.
abbrev pub Follows : {E F : Type 0} → (ℕ → Option (ℕ × E)) → ℕ → List (Result (ℕ × E) F) → Type 0
Follows at f [] = Unit {0}
Follows at f (Err x ∷ parts) = ⊥
Follows at f (Ok p ∷ parts) = (at p.0 ≡ Some (f, p.1)) × Follows at f parts

-- the statement is where a function begins, or a branch leads from such a one to it, or from one that is reached
pub data Reached {E F : Type 0} (r : Rules E F) : ℕ → Type 0 where
  entry : (i s : ℕ) (e : E) → slice_get r.entries i ≡ Some (s, e) → Reached r s
  along : (k s t : ℕ) → Reached r s → slice_get (r.leads s) k ≡ Some t → Reached r t

pub record Annotates {E F : Type 0} (r : Rules E F) (a : List (ℕ × E)) : Type 0 where
  pub long : length a ≡ r.size
  pub begins : (i s : ℕ) (e : E) → slice_get r.entries i ≡ Some (s, e) → slice_get a s ≡ Some (i, e)
  pub flows : (s f : ℕ) (e : E) → slice_get a s ≡ Some (f, e) → Follows (slice_get a) f (r.flow f s e)
  pub reached : (s : ℕ) → s < r.size → Reached r s
