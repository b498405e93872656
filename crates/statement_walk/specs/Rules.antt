-- The rules of a walk over statements, whatever it finds at each of them.
use Rattle.std.specs.Prelude.{◌≡◌, ◌↔◌, ℕ, ◌<◌, List, [], ◌∷◌, Option, None, Result, Ok, Err, ◌⊎◌}

-- An environment E is what is known where a statement begins, and F is a fault.
pub record Rules (E F : Type 0) : Type 0 where
  -- how many statements there are
  pub size : ℕ
  -- of the functions in declared order: the statement where it begins, and the environment there
  pub entries : List (ℕ × E)
  -- where the branches of a statement lead
  pub leads : ℕ → List ℕ
  -- of a function's statement with an environment: one part for each branch, with the target and the environment there.
  -- A fault before the branches is the only part
  pub flow : ℕ → ℕ → E → List (Result (ℕ × E) F)
  -- of a statement: why the environment that it gives doesn't agree with the one that its target has
  pub clash : ℕ → E → E → Option F
  -- a statement past the last one, where a function begins
  pub stray : ℕ → F
  -- a statement of an earlier function, where a function begins
  pub shared_entry : ℕ → F
  -- a statement that leads to one of an earlier function
  pub shared : ℕ → F
  -- a statement that no function reaches
  pub unreached : ℕ → F

-- each part that isn't a fault leads to the target in its place, which is a statement
abbrev pub AreParts : {E F : Type 0} → ℕ → List ℕ → List (Result (ℕ × E) F) → Type 0
AreParts size [] [] = Unit {0}
AreParts size [] (part ∷ parts) = ⊥
AreParts size (t ∷ ts) [] = ⊥
AreParts size (t ∷ ts) (Err x ∷ parts) = AreParts size ts parts
AreParts size (t ∷ ts) (Ok p ∷ parts) = (p.0 ≡ t) × (t < size) × AreParts size ts parts

-- the rules fit together
pub record Lawful {E F : Type 0} (r : Rules E F) : Type 0 where
  pub flows : (f s : ℕ) (e : E) → s < r.size → ((x : F) × (r.flow f s e ≡ Err x ∷ [])) ⊎ AreParts r.size (r.leads s) (r.flow f s e)
  pub clashes : (s : ℕ) (e had : E) → (r.clash s e had ≡ None) ↔ (e ≡ had)
