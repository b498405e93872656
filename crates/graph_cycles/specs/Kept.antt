-- What a search keeps true of its state.
use Rattle.std.specs.Prelude.{◌≡◌, ◌⊎◌, ◌↔◌, ℕ, ◌+◌, ◌-◌, ◌<◌, ◌≤◌, List, [], ◌∷◌, false, IsTrue, length, slice_index, slice_index_or}
use Rattle.graph_cycles.specs.declared.search.Frame.{Frame}
use Rattle.graph_cycles.specs.declared.search.Mark.{Mark}
use Rattle.graph_cycles.specs.declared.search.Mark.TheVariants.{Unseen, Open, Done}
use Rattle.graph_cycles.specs.Graph.{targets_of, Leads, Reaches, OnCycle}
use Rattle.graph_cycles.specs.Cycles.{TargetsFirst}
use Rattle.graph_cycles.specs.Searching.{State, mark_of, node_at, frame_at}

-- The marks say which nodes are on the path, where, and which are in the order.
pub record MarksTell (n : ℕ) (s : State) : Type 0 where
  pub size : length s.marks ≡ n
  pub open_at : (p : ℕ) → p < length s.path → (node_at s p < n) × (mark_of s (node_at s p) ≡ Open p)
  pub on_path : (v p : ℕ) → mark_of s v ≡ Open p → (p < length s.path) × (node_at s p ≡ v)
  pub done_at : (i : ℕ) → i < length s.order → (slice_index s.order i < n) × (mark_of s (slice_index s.order i) ≡ Done)
  pub in_order : (v : ℕ) → mark_of s v ≡ Done → (i : ℕ) × (i < length s.order) × (slice_index s.order i ≡ v)
  pub once : (i j : ℕ) → i < length s.order → j < length s.order → slice_index s.order i ≡ slice_index s.order j → i ≡ j

-- Of the nodes in the order all is known.
pub record DoneIsRight (g : List (List ℕ)) (s : State) : Type 0 where
  pub size : length s.cyclic ≡ length g
  pub closed : (v t : ℕ) → mark_of s v ≡ Done → Leads g v t → mark_of s t ≡ Done
  pub right : (v : ℕ) → mark_of s v ≡ Done → IsTrue (slice_index_or s.cyclic v false) ↔ OnCycle g v
  pub first : TargetsFirst g s.order

-- a frame of a path: the node reaches a lowest place of the path, and each later one
pub record IsFrame (g : List (List ℕ)) (s : State) (f : Frame) : Type 0 where
  pub on_path : f.place < length s.path
  pub node : node_at s f.place ≡ f.node
  pub lowest : f.lowest ≤ f.place
  pub back : Reaches g f.node (node_at s f.lowest)
  pub on : (p : ℕ) → f.place ≤ p → p < length s.path → Reaches g f.node (node_at s p)

-- the frames stand in order of place, and the first is that of the path's first node
pub record AreFrames (g : List (List ℕ)) (s : State) : Type 0 where
  pub each : (i : ℕ) → i < length s.frames → IsFrame g s (frame_at s i)
  pub rising : (i j : ℕ) → i < j → j < length s.frames → (frame_at s i).place < (frame_at s j).place
  pub first : 0 < length s.frames → (frame_at s 0).place ≡ 0
  pub none : length s.frames ≡ 0 → length s.path ≡ 0

-- The place belongs to this frame: it lies before that of the next.
pub record IsWithin (s : State) (i p : ℕ) : Type 0 where
  pub frame : i < length s.frames
  pub from : (frame_at s i).place ≤ p
  pub on_path : p < length s.path
  pub before : i + 1 < length s.frames → p < (frame_at s (i + 1)).place

-- a node in the order, or on the path from this place on
abbrev pub IsSettled : State → ℕ → ℕ → Type 0
IsSettled s low v = (mark_of s v ≡ Done) ⊎ ((p : ℕ) × (low ≤ p) × (mark_of s v ≡ Open p))

-- Of a place that belongs to a frame: each target was tried, or is one that the frame is still to try; and unless the
-- place is the frame's own, its node reaches an earlier one. No way leads further back than the frame knows.
pub record IsTried (g : List (List ℕ)) (s : State) (f : Frame) (p : ℕ) : Type 0 where
  pub targets : (e : ℕ) → e < length (targets_of g (node_at s p)) → IsSettled s f.lowest (slice_index (targets_of g (node_at s p)) e) ⊎ ((p ≡ f.place) × (f.next ≤ e))
  pub climbs : (p ≡ f.place) ⊎ ((r : ℕ) × (f.lowest ≤ r) × (r < p) × Reaches g (node_at s p) (node_at s r))

-- what all steps keep
pub record IsSearch (g : List (List ℕ)) (s : State) : Type 0 where
  pub marks : MarksTell (length g) s
  pub done : DoneIsRight g s
  pub frames : AreFrames g s
  pub tried : (i p : ℕ) → IsWithin s i p → IsTried g s (frame_at s i) p

-- the frame is the last one
pub record IsTop (s : State) (f : Frame) : Type 0 where
  pub some : 0 < length s.frames
  pub last : frame_at s (length s.frames - 1) ≡ f

-- how many steps are left for the nodes that weren't met
abbrev pub unmet : List Mark → List (List ℕ) → ℕ
unmet [] g = 0
unmet (m ∷ ms) [] = 0
unmet (Unseen ∷ ms) (ts ∷ g) = length ts + 2 + unmet ms g
unmet (Open p ∷ ms) (ts ∷ g) = unmet ms g
unmet (Done ∷ ms) (ts ∷ g) = unmet ms g

-- and for a frame
abbrev pub untried : List (List ℕ) → Frame → ℕ
untried g f = length (targets_of g f.node) - f.next + 1

abbrev pub all_untried : List (List ℕ) → List Frame → ℕ
all_untried g [] = 0
all_untried g (f ∷ fs) = untried g f + all_untried g fs

-- an upper bound on the steps that are left
abbrev pub work : List (List ℕ) → State → ℕ
work g s = unmet s.marks g + all_untried g s.frames

-- what a part of the search makes of a state: no node that was met is forgotten
pub record GoesOn (g : List (List ℕ)) (old new : State) : Type 0 where
  pub kept : IsSearch g new
  pub met : (v : ℕ) → mark_of new v ≡ Unseen → mark_of old v ≡ Unseen

-- what a step gives: the search goes on, with fewer steps left
pub record Steps (g : List (List ℕ)) (old new : State) : Type 0 where
  pub on : GoesOn g old new
  pub less : work g new < work g old

-- f is the last frame, and all its targets were tried
pub record IsSpent (g : List (List ℕ)) (s : State) (f : Frame) : Type 0 where
  pub kept : IsSearch g s
  pub top : IsTop s f
  pub tried : length (targets_of g f.node) ≤ f.next
