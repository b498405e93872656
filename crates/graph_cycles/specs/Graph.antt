-- Directed graphs, ways in them, and what lies on a cycle. A graph is the list of each node's targets; its nodes are the
-- numbers below its length.
use Rattle.std.specs.Prelude.{◌≡◌, ℕ, zero, suc, ◌<◌, List, [], length, slice_index_or}
use Rattle.std.specs.List.{Contains}

-- the targets of a node, in order
abbrev pub targets_of : List (List ℕ) → ℕ → List ℕ
targets_of g s = slice_index_or g s []

-- t is a target of s
abbrev pub Leads : List (List ℕ) → ℕ → ℕ → Type 0
Leads g s t = Contains (targets_of g s) t

-- each target is below n
abbrev pub LeadsBelow : ℕ → List (List ℕ) → Type 0
LeadsBelow n g = (s t : ℕ) → Leads g s t → t < n

-- each target is a node
pub record IsClosed (g : List (List ℕ)) : Type 0 where
  pub targets : LeadsBelow (length g) g

-- a way of j edges from s to t
abbrev pub Way : List (List ℕ) → ℕ → ℕ → ℕ → Type 0
Way g zero s t = s ≡ t
Way g (suc j) s t = (u : ℕ) × Leads g s u × Way g j u t

-- a way from s to t, perhaps of no edge
abbrev pub Reaches : List (List ℕ) → ℕ → ℕ → Type 0
Reaches g s t = (j : ℕ) × Way g j s t

-- a way of at least one edge from s back to s
abbrev pub OnCycle : List (List ℕ) → ℕ → Type 0
OnCycle g s = (j : ℕ) × Way g (suc j) s s
