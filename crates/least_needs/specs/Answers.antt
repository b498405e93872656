-- What is answered of some terms.
use Rattle.std.specs.Prelude.{◌≡◌, ℕ, ◌<◌, ◌≤◌, List, length, slice_index}
use Rattle.graph_cycles.specs.Graph.{OnCycle}
use Rattle.least_needs.specs.declared.terms.Term.{Term}
use Rattle.least_needs.specs.declared.solving.Fault.{Fault}
use Rattle.least_needs.specs.declared.solving.Fault.TheVariants.{Cycle, TooLarge, Memory}
use Rattle.least_needs.specs.Terms.{graph_of}
use Rattle.least_needs.specs.Needs.{AreNeeds, limit}
use Rattle.least_needs.specs.Cycles.{IsCycle}

-- No statement is on a cycle, the list is of the least needs, a number for each statement, and each is below the limit.
pub record AreSmallNeeds (terms : List (List Term)) (needs : List ℕ) : Type 0 where
  pub acyclic : (s : ℕ) → ¬ OnCycle (graph_of terms) s
  pub for_each : length needs ≡ length terms
  pub are : AreNeeds terms (slice_index needs)
  pub small : (s : ℕ) → s < length terms → slice_index needs s < limit

-- No statement is on a cycle, and s is the first statement of which the least need isn't below the limit.
pub record IsTooLarge (terms : List (List Term)) (s : ℕ) : Type 0 where
  pub acyclic : (u : ℕ) → ¬ OnCycle (graph_of terms) u
  pub need : ℕ → ℕ
  pub are : AreNeeds terms need
  pub below : s < length terms
  pub large : limit ≤ need s
  pub first : (u : ℕ) → u < s → need u < limit

-- the fault is right; of memory nothing is said
abbrev pub IsFault : List (List Term) → Fault → Type 0
IsFault terms (Cycle nodes) = IsCycle (graph_of terms) nodes.items
IsFault terms (TooLarge s) = IsTooLarge terms s
IsFault terms Memory = Unit {0}
