-- The state of a search for cycles, and what each of its steps makes of it.
use Rattle.std.specs.Prelude.{◌≡◌, ◌≢◌, ◌⊎◌, ◌↔◌, ℕ, ◌+◌, ◌-◌, ◌<◌, min, List, [], ◌∷◌, ◌++◌, Bool, false, IsTrue, length, take, drop, replicate, slice_index, slice_index_or, slice_set}
use Rattle.graph_cycles.specs.declared.search.Frame.{Frame}
use Rattle.graph_cycles.specs.declared.search.Mark.{Mark}
use Rattle.graph_cycles.specs.declared.search.Mark.TheVariants.{Unseen, Open, Done}
use Rattle.graph_cycles.specs.declared.search.Search.{Search}
use Rattle.graph_cycles.specs.Graph.{Leads}

-- the lists of a search
pub record State : Type 0 where
  pub marks : List Mark
  pub path : List ℕ
  pub frames : List Frame
  pub order : List ℕ
  pub cyclic : List Bool

abbrev pub state_of : Search → State
state_of s = record { marks = s.marks.items; path = s.path.items; frames = s.frames.items; order = s.order.items; cyclic = s.cyclic.items }

abbrev pub mark_of : State → ℕ → Mark
mark_of s v = slice_index_or s.marks v Unseen

-- the node at a place of the path
abbrev pub node_at : State → ℕ → ℕ
node_at s p = slice_index s.path p

abbrev pub frame_at : State → ℕ → Frame
frame_at s i = slice_index_or s.frames i (record { node = 0; place = 0; next = 0; lowest = 0 })

-- no node was met yet
abbrev pub fresh : ℕ → State
fresh n = record { marks = replicate n Unseen; path = []; frames = []; order = []; cyclic = replicate n false }

-- the frame of a node that goes onto the path
abbrev pub opened : State → ℕ → Frame
opened s v = record { node = v; place = length s.path; next = 0; lowest = length s.path }

-- the node goes onto the path, and its targets are to be tried next
abbrev pub entered : State → ℕ → State
entered s v = record {
  marks = slice_set s.marks v (Open (length s.path));
  path = s.path ++ v ∷ [];
  frames = s.frames ++ opened s v ∷ [];
  order = s.order;
  cyclic = s.cyclic;
}

-- the first place that is known to be reached, where a target with this mark is too
abbrev pub lowered : ℕ → Mark → ℕ
lowered lowest Unseen = lowest
lowered lowest (Open place) = min lowest place
lowered lowest Done = lowest

-- the frame once its next target, which has this mark, was tried
abbrev pub after : Frame → Mark → Frame
after f m = record { node = f.node; place = f.place; next = f.next + 1; lowest = lowered f.lowest m }

-- another frame in the place of the last one
abbrev pub replaced : State → Frame → State
replaced s f = record { marks = s.marks; path = s.path; frames = slice_set s.frames (length s.frames - 1) f; order = s.order; cyclic = s.cyclic }

-- the last frame, if there is one, with a way back to this place
abbrev pub lowered_top : State → ℕ → State
lowered_top s low = let f = frame_at s (length s.frames - 1) in replaced s (record { node = f.node; place = f.place; next = f.next; lowest = min f.lowest low })

-- the node goes onto the path if it has this mark
abbrev pub entered_if : Mark → State → ℕ → State
entered_if Unseen s v = entered s v
entered_if (Open p) s v = s
entered_if Done s v = s

-- the next target of the last frame was tried
abbrev pub followed : State → Frame → ℕ → State
followed s f t = entered_if (mark_of s t) (replaced s (after f (mark_of s t))) t

-- one frame fewer
abbrev pub popped : State → State
popped s = record { marks = s.marks; path = s.path; frames = take (length s.frames - 1) s.frames; order = s.order; cyclic = s.cyclic }

-- The first so many of the nodes are done, and no other mark changes.
pub record MarksDone (count : ℕ) (nodes : List ℕ) (old new : List Mark) : Type 0 where
  pub size : length new ≡ length old
  pub done : (k : ℕ) → k < count → slice_index_or new (slice_index nodes k) Unseen ≡ Done
  pub others : (v : ℕ) → ((k : ℕ) → k < count → slice_index nodes k ≢ v) → slice_index_or new v Unseen ≡ slice_index_or old v Unseen

-- a node of some that all lead to each other is on a cycle: there are more of them, or it is a target of its own
abbrev pub IsAround : List (List ℕ) → List ℕ → ℕ → Type 0
IsAround g nodes v = (1 < length nodes) ⊎ Leads g v v

-- The entry of each of the first so many of the nodes says whether it is on a cycle, and no other entry changes.
pub record NotesCycles (g : List (List ℕ)) (count : ℕ) (nodes : List ℕ) (old new : List Bool) : Type 0 where
  pub size : length new ≡ length old
  pub noted : (k : ℕ) → k < count → IsTrue (slice_index_or new (slice_index nodes k) false) ↔ IsAround g nodes (slice_index nodes k)
  pub others : (v : ℕ) → ((k : ℕ) → k < count → slice_index nodes k ≢ v) → slice_index_or new v false ≡ slice_index_or old v false

-- the part of the path from this place on goes into the order
pub record Closes (g : List (List ℕ)) (place : ℕ) (old new : State) : Type 0 where
  pub marks : MarksDone (length old.path - place) (drop place old.path) old.marks new.marks
  pub path : new.path ≡ take place old.path
  pub frames : new.frames ≡ old.frames
  pub order : new.order ≡ old.order ++ drop place old.path
  pub cyclic : NotesCycles g (length old.path - place) (drop place old.path) old.cyclic new.cyclic
