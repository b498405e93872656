-- Distances to a node, found layer by layer against the direction of the edges.
use Rattle.std.specs.Prelude.{◌≡◌, ℕ, suc, ◌+◌, ◌≤◌, List, [], ◌∷◌, ◌++◌, Option, None, Some, length, map, slice_index_or, slice_set}
use Rattle.std.specs.List.{Contains}
use Rattle.std.specs.declared.vec.Vec.{Vec}
use Rattle.std.specs.declared.alloc.Global.{Global}
use Rattle.graph_cycles.specs.Graph.{targets_of, Way}
use Rattle.least_needs.specs.Terms.{AreBelow}

-- each node's number of edges of a shortest way to the start, if there is a way
pub record AreDistances (g : List (List ℕ)) (start : ℕ) (distances : List (Option ℕ)) : Type 0 where
  pub size : length distances ≡ length g
  pub way : (t j : ℕ) → slice_index_or distances t None ≡ Some j → Way g j t start
  pub some : (t i : ℕ) → Way g i t start → (j : ℕ) × (slice_index_or distances t None ≡ Some j) × (j ≤ i)

-- the nodes that lead to a node, in the place of its targets

abbrev pub lists_of : List (Vec ℕ Global) → List (List ℕ)
lists_of lists = map (λ v. v.items) lists

-- all numbers of all lists are below n
abbrev pub AreInside : ℕ → List (List ℕ) → Type 0
AreInside n [] = Unit {0}
AreInside n (ts ∷ lists) = AreBelow n ts × AreInside n lists

-- a source is added to each of these nodes
abbrev pub with_source : List (List ℕ) → ℕ → List ℕ → List (List ℕ)
with_source lists s [] = lists
with_source lists s (t ∷ ts) = with_source (slice_set lists t (targets_of lists t ++ s ∷ [])) s ts

-- and so for each node from this one on
abbrev pub with_sources : List (List ℕ) → ℕ → List (List ℕ) → List (List ℕ)
with_sources lists s [] = lists
with_sources lists s (ts ∷ g) = with_sources (with_source lists s ts) (s + 1) g

-- the distances so far, and the nodes of the next layer
pub record Found : Type 0 where
  pub distances : List (Option ℕ)
  pub next : List ℕ

abbrev pub found : List (Option ℕ) → List ℕ → Found
found distances next = record { distances = distances; next = next }

-- a node with this distance, unless it had one before
abbrev pub reached_if : Option ℕ → ℕ → Found → ℕ → Found
reached_if None edges f t = found (slice_set f.distances t (Some edges)) (f.next ++ t ∷ [])
reached_if (Some j) edges f t = f

abbrev pub reached : ℕ → Found → ℕ → Found
reached edges f t = reached_if (slice_index_or f.distances t None) edges f t

abbrev pub all_reached : ℕ → Found → List ℕ → Found
all_reached edges f [] = f
all_reached edges f (t ∷ ts) = all_reached edges (reached edges f t) ts

-- the sources of each node of a layer are reached
abbrev pub layer_reached : List (List ℕ) → ℕ → Found → List ℕ → Found
layer_reached lists edges f [] = f
layer_reached lists edges f (u ∷ us) = layer_reached lists edges (all_reached edges f (targets_of lists u)) us

-- how many nodes have no distance
abbrev pub unreached : List (Option ℕ) → ℕ
unreached [] = 0
unreached (None ∷ ds) = suc (unreached ds)
unreached (Some j ∷ ds) = unreached ds

-- All distances up to this one are found, and the layer has each node with this one.
pub record AreFound (g : List (List ℕ)) (start edges : ℕ) (f : Found) : Type 0 where
  pub size : length f.distances ≡ length g
  pub way : (t j : ℕ) → slice_index_or f.distances t None ≡ Some j → (j ≤ edges) × Way g j t start
  pub some : (t i : ℕ) → i ≤ edges → Way g i t start → (j : ℕ) × (slice_index_or f.distances t None ≡ Some j) × (j ≤ i)
  pub layer : (t : ℕ) → slice_index_or f.distances t None ≡ Some edges → Contains f.next t
  pub inside : (t : ℕ) → Contains f.next t → slice_index_or f.distances t None ≡ Some edges
