-- The last frame goes, and its node stays on the path: what the search keeps.
use Rattle.std.proofs.Common.{◌≡◌, ℕ, ◌+◌, ◌-◌, ◌<◌, ◌≤◌, ◌⊎◌, inl, inr, List, length, get_or, ap, ◌∙◌, arith}
use Rattle.std.proofs.lemmas.List.{get_or-take, length-take-le}
use Rattle.std.proofs.lemmas.Bool.{cases_lt}
use Rattle.graph_cycles.specs.Graph.{targets_of, Reaches}
use Rattle.graph_cycles.specs.Kept.{MarksTell, DoneIsRight, AreFrames, IsWithin, IsSettled, IsTried, IsSearch}
use Rattle.graph_cycles.specs.Searching.{State, node_at, frame_at, popped}
use Rattle.graph_cycles.proofs.Trying.{settled_below}

pub length-popped : (s : State) → length (popped s).frames ≡ length s.frames - 1
length-popped s = length-take-le (length s.frames - 1) s.frames (omega arith)

pub popped_frame : (s : State) (i : ℕ) → i < length s.frames - 1 → frame_at (popped s) i ≡ frame_at s i
popped_frame s i lt = get_or-take (length s.frames - 1) s.frames i _ lt

-- The frame k is the last, its targets were tried, and the frame before it knows of a way further back.
pub record CanLeave (g : List (List ℕ)) (s : State) (k : ℕ) : Type 0 where
  pub last : length s.frames ≡ k + 2
  pub tried : length (targets_of g (frame_at s (k + 1)).node) ≤ (frame_at s (k + 1)).next
  pub lowest : (frame_at s k).lowest ≤ (frame_at s (k + 1)).lowest
  pub back : (frame_at s (k + 1)).lowest < (frame_at s (k + 1)).place

pub left_frames : (g : List (List ℕ)) (s : State) (k : ℕ) → AreFrames g s → length s.frames ≡ k + 2 → AreFrames g (popped s)
left_frames g s k frames last = record {
  each = λ i within.
      let lt : i < length s.frames - 1 = omega (arith, length-popped s) in
      let old = frames.each i (omega arith) in
      rw (popped_frame s i lt) (record { on_path = old.on_path; node = old.node; lowest = old.lowest; back = old.back; on = old.on });
  rising = λ i j lt within.
      let two : j < length s.frames - 1 = omega (arith, length-popped s) in
      let one : i < length s.frames - 1 = omega arith in
      rw (popped_frame s i one, popped_frame s j two) (frames.rising i j lt (omega arith));
  first = λ some.
      let one : 0 < length s.frames - 1 = omega arith in
      rw (popped_frame s 0 one) (frames.first (omega arith));
  none = λ none. absurd (omega (arith, length-popped s));
}

pub left_tried : (g : List (List ℕ)) (s : State) (k : ℕ) → AreFrames g s → CanLeave g s k → ((i p : ℕ) → IsWithin s i p → IsTried g s (frame_at s i) p) → (i p : ℕ) → IsWithin (popped s) i p → IsTried g (popped s) (frame_at (popped s) i) p
left_tried g s k frames can tried i p within = by_frame (cases_lt i k) (cases_lt p (frame_at s (k + 1)).place)
  where
    here : i < length s.frames - 1
    here = omega (arith, within.frame, length-popped s)

    from : (frame_at s i).place ≤ p
    from = rw (popped_frame s i here) at within.from

    the_same : IsWithin s i p → IsTried g (popped s) (frame_at (popped s) i) p
    the_same was =
        let old = tried i p was in
        rw (popped_frame s i here) (record { targets = old.targets; climbs = old.climbs })

    by_turn : (e : ℕ) → e < length (targets_of g (node_at s p)) → IsSettled s (frame_at s (k + 1)).lowest (get_or (targets_of g (node_at s p)) e 0) ⊎ ((p ≡ (frame_at s (k + 1)).place) × ((frame_at s (k + 1)).next ≤ e)) → IsSettled s (frame_at s k).lowest (get_or (targets_of g (node_at s p)) e 0)
    by_turn e in_range (inl settled) = settled_below s (frame_at s k).lowest (frame_at s (k + 1)).lowest _ can.lowest settled
    by_turn e in_range (inr left) =
        let node : node_at s p ≡ (frame_at s (k + 1)).node = ap (node_at s) left.0 ∙ (frames.each (k + 1) (omega (arith, can.last))).node in
        let few : e < length (targets_of g (frame_at s (k + 1)).node) = rw node at in_range in
        absurd (omega (arith, can.tried, left.1))

    by_place : (p ≡ (frame_at s (k + 1)).place) ⊎ ((r : ℕ) × ((frame_at s (k + 1)).lowest ≤ r) × (r < p) × Reaches g (node_at s p) (node_at s r)) → (r : ℕ) × ((frame_at s k).lowest ≤ r) × (r < p) × Reaches g (node_at s p) (node_at s r)
    by_place (inl own) =
        let last = frames.each (k + 1) (omega (arith, can.last)) in
        let node : node_at s p ≡ (frame_at s (k + 1)).node = ap (node_at s) own ∙ last.node in
        let back : Reaches g (node_at s p) (node_at s (frame_at s (k + 1)).lowest) = rw node last.back in
        ((frame_at s (k + 1)).lowest, can.lowest, omega (arith, can.back, own), back)
    by_place (inr back) = (back.0, omega (arith, back.1, can.lowest), back.2, back.3)

    by_frame : (i < k) ⊎ (k ≤ i) → (p < (frame_at s (k + 1)).place) ⊎ ((frame_at s (k + 1)).place ≤ p) → IsTried g (popped s) (frame_at (popped s) i) p
    by_frame (inl earlier) side =
        let next : i + 1 < length s.frames - 1 = omega (arith, can.last) in
        the_same (record {
          frame = omega (arith, here);
          from = from;
          on_path = within.on_path;
          before = λ more. rw (popped_frame s (i + 1) next) at (within.before (omega (arith, length-popped s)));
        })
    by_frame (inr last) (inl before) =
        let is : i ≡ k = omega (arith, here, can.last) in
        the_same (record {
          frame = omega (arith, here);
          from = from;
          on_path = within.on_path;
          before = λ more. rw is before;
        })
    by_frame (inr last) (inr behind) =
        let is : i ≡ k = omega (arith, here, can.last) in
        let old = tried (k + 1) p (record { frame = omega (arith, can.last); from = behind; on_path = within.on_path; before = λ more. absurd (omega (arith, can.last)) }) in
        let new : IsTried g (popped s) (frame_at s k) p = record { targets = λ e in_range. inl (by_turn e in_range (old.targets e in_range)); climbs = inr (by_place old.climbs) } in
        rw (popped_frame s i here, is) new

pub left_search : (g : List (List ℕ)) (s : State) (k : ℕ) → IsSearch g s → CanLeave g s k → IsSearch g (popped s)
left_search g s k kept can = record {
  marks = record { size = marks.size; open_at = marks.open_at; on_path = marks.on_path; done_at = marks.done_at; in_order = marks.in_order; once = marks.once };
  done = record { size = done.size; closed = done.closed; right = done.right; first = done.first };
  frames = left_frames g s k kept.frames can.last;
  tried = left_tried g s k kept.frames can kept.tried;
}
  where
    marks : MarksTell (length g) s
    marks = kept.marks

    done : DoneIsRight g s
    done = kept.done
