-- The one cycle of a graph that is named where there are some.
use Rattle.std.specs.Prelude.{◌≢◌, ℕ, ◌+◌, ◌-◌, ◌<◌, ◌≤◌, List, length, slice_index}
use Rattle.graph_cycles.specs.Graph.{Leads, Way, OnCycle}

-- Of the targets of s, t is the nearest to the start, by the number of edges from there to the start; of those that are
-- as near, it is the least.
pub record IsNext (g : List (List ℕ)) (start s t : ℕ) : Type 0 where
  pub leads : Leads g s t
  pub edges : ℕ
  pub way : Way g edges t start
  pub nearest : (u j : ℕ) → Leads g s u → Way g j u start → edges ≤ j
  pub least : (u : ℕ) → Leads g s u → Way g edges u start → t ≤ u

-- the least node that is on a cycle
pub record IsLeastOnCycle (g : List (List ℕ)) (start : ℕ) : Type 0 where
  pub is : OnCycle g start
  pub first : (s : ℕ) → s < start → ¬ OnCycle g s

-- The list begins at the least node on a cycle, and goes on from each to its next, until that is the start.
pub record IsCycle (g : List (List ℕ)) (nodes : List ℕ) : Type 0 where
  pub some : 0 < length nodes
  pub start : IsLeastOnCycle g (slice_index nodes 0)
  pub next : (i : ℕ) → i + 1 < length nodes → IsNext g (slice_index nodes 0) (slice_index nodes i) (slice_index nodes (i + 1))
  pub apart : (i : ℕ) → i + 1 < length nodes → slice_index nodes (i + 1) ≢ slice_index nodes 0
  pub back : IsNext g (slice_index nodes 0) (slice_index nodes (length nodes - 1)) (slice_index nodes 0)
