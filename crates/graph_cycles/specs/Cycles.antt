-- What is found of a graph: its nodes in an order in which targets come first, and which nodes lie on a cycle.
use Rattle.std.specs.Prelude.{◌≡◌, ◌⊎◌, ◌↔◌, ℕ, ◌<◌, List, Bool, false, IsTrue, length, slice_index, slice_index_or}
use Rattle.std.specs.List.{Contains}
use Rattle.graph_cycles.specs.Graph.{Leads, Reaches, OnCycle}

-- the nodes in order, and for each node whether it is on a cycle
pub record Findings : Type 0 where
  pub order : List ℕ
  pub cyclic : List Bool

-- The order has each number below n once, and nothing else.
pub record HasEachOnce (n : ℕ) (order : List ℕ) : Type 0 where
  pub below : (i : ℕ) → i < length order → slice_index order i < n
  pub each : (s : ℕ) → s < n → Contains order s
  pub once : (i j : ℕ) → i < length order → j < length order → slice_index order i ≡ slice_index order j → i ≡ j

-- t is one of the first i of the order
abbrev pub IsBefore : List ℕ → ℕ → ℕ → Type 0
IsBefore order i t = (k : ℕ) × (k < i) × (slice_index order k ≡ t)

-- Each target of a node of the order stands before the node, or else leads back to it.
abbrev pub TargetsFirst : List (List ℕ) → List ℕ → Type 0
TargetsFirst g order = (i t : ℕ) → i < length order → Leads g (slice_index order i) t → IsBefore order i t ⊎ Reaches g t (slice_index order i)

-- each node's entry says whether the node is on a cycle
pub record TellsCycles (g : List (List ℕ)) (cyclic : List Bool) : Type 0 where
  pub for_each : length cyclic ≡ length g
  pub right : (s : ℕ) → s < length g → IsTrue (slice_index_or cyclic s false) ↔ OnCycle g s
