-- A frame that knows more takes the place of one: what the search keeps.
use Rattle.std.proofs.Common.{◌≡◌, ◌≢◌, ℕ, ◌+◌, ◌<◌, ◌≤◌, ◌⊎◌, inl, inr, List, length, get_or, set, refl, sym, ap, subst, ◌∙◌, arith}
use Rattle.std.proofs.lemmas.List.{get_or-set_other, get_or-set_same, length-set}
use Rattle.std.proofs.lemmas.Bool.{cases_eq, cases_lt}
use Rattle.graph_cycles.specs.declared.search.Frame.{Frame}
use Rattle.graph_cycles.specs.Graph.{targets_of, Reaches}
use Rattle.graph_cycles.specs.Kept.{MarksTell, DoneIsRight, IsFrame, AreFrames, IsWithin, IsSettled, IsTried, IsSearch}
use Rattle.graph_cycles.specs.Searching.{State, node_at, frame_at}

abbrev pub with_frame : State → ℕ → Frame → State
with_frame s i f = record { marks = s.marks; path = s.path; frames = set s.frames i f; order = s.order; cyclic = s.cyclic }

-- The frame is one of the same node that may have tried more targets and know of a way further back.
pub record Betters (g : List (List ℕ)) (s : State) (old f : Frame) : Type 0 where
  pub place : f.place ≡ old.place
  pub node : f.node ≡ old.node
  pub lowest : f.lowest ≤ old.lowest
  pub back : Reaches g f.node (node_at s f.lowest)
  pub tried : (e : ℕ) → e < length (targets_of g f.node) → old.next ≤ e → e < f.next → IsSettled s f.lowest (get_or (targets_of g f.node) e 0)

pub settled_below : (s : State) (low high v : ℕ) → low ≤ high → IsSettled s high v → IsSettled s low v
settled_below s low high v le (inl is) = inl is
settled_below s low high v le (inr at) = inr (at.0, omega (arith, at.1), at.2)

pub other_frame : (s : State) (i j : ℕ) (f : Frame) → j ≢ i → frame_at (with_frame s i f) j ≡ frame_at s j
other_frame s i j f apart = get_or-set_other s.frames i j f _ apart

pub this_frame : (s : State) (i : ℕ) (f : Frame) → i < length s.frames → frame_at (with_frame s i f) i ≡ f
this_frame s i f lt = get_or-set_same s.frames i f _ lt

same_place : (s : State) (i j : ℕ) (f : Frame) → i < length s.frames → f.place ≡ (frame_at s i).place → (frame_at (with_frame s i f) j).place ≡ (frame_at s j).place
same_place s i j f lt place = by_frame (cases_eq j i)
  where
    by_frame : (j ≡ i) ⊎ (j ≢ i) → (frame_at (with_frame s i f) j).place ≡ (frame_at s j).place
    by_frame (inl same) = rw (same, this_frame s i f lt) place
    by_frame (inr apart) = rw (other_frame s i j f apart) refl

pub better_frames : (g : List (List ℕ)) (s : State) (i : ℕ) (f : Frame) → AreFrames g s → i < length s.frames → Betters g s (frame_at s i) f → AreFrames g (with_frame s i f)
better_frames g s i f frames lt better = record {
  each = λ j within. by_frame j (cases_eq j i) (omega (arith, within, length-set s.frames i f));
  rising = λ j k before within. rw (same_place s i j f lt better.place, same_place s i k f lt better.place) (frames.rising j k before (omega (arith, within, length-set s.frames i f)));
  first = λ some. same_place s i 0 f lt better.place ∙ frames.first (omega arith);
  none = λ none. absurd (omega (arith, length-set s.frames i f));
}
  where
    by_frame : (j : ℕ) → (j ≡ i) ⊎ (j ≢ i) → j < length s.frames → IsFrame g (with_frame s i f) (frame_at (with_frame s i f) j)
    by_frame j (inl same) within =
        let old = frames.each i lt in
        let node : node_at s f.place ≡ f.node = ap (node_at s) better.place ∙ old.node ∙ sym better.node in
        let on : (p : ℕ) → f.place ≤ p → p < length s.path → Reaches g f.node (node_at s p) = λ p from on. rw better.node (old.on p (omega (arith, better.place)) on) in
        rw (same, this_frame s i f lt) (record { on_path = omega (arith, old.on_path, better.place); node = node; lowest = omega (arith, old.lowest, better.place, better.lowest); back = better.back; on = on })
    by_frame j (inr apart) within =
        let old = frames.each j within in
        rw (other_frame s i j f apart) (record { on_path = old.on_path; node = old.node; lowest = old.lowest; back = old.back; on = old.on })

pub better_tried : (g : List (List ℕ)) (s : State) (i : ℕ) (f : Frame) → AreFrames g s → i < length s.frames → Betters g s (frame_at s i) f → ((j p : ℕ) → IsWithin s j p → IsTried g s (frame_at s j) p) → (j p : ℕ) → IsWithin (with_frame s i f) j p → IsTried g (with_frame s i f) (frame_at (with_frame s i f) j) p
better_tried g s i f frames lt better tried j p within = by_frame (cases_eq j i)
  where
    was_within : IsWithin s j p
    was_within = record {
      frame = omega (arith, within.frame, length-set s.frames i f);
      from = rw (same_place s i j f lt better.place) at within.from;
      on_path = within.on_path;
      before = λ more. rw (same_place s i (j + 1) f lt better.place) at (within.before (omega (arith, length-set s.frames i f)));
    }

    by_turn : (e : ℕ) → e < length (targets_of g (node_at s p)) → (e < f.next) ⊎ (f.next ≤ e) → IsSettled s (frame_at s i).lowest (get_or (targets_of g (node_at s p)) e 0) ⊎ ((p ≡ (frame_at s i).place) × ((frame_at s i).next ≤ e)) → IsSettled s f.lowest (get_or (targets_of g (node_at s p)) e 0) ⊎ ((p ≡ f.place) × (f.next ≤ e))
    by_turn e in_range turn (inl settled) = inl (settled_below s f.lowest (frame_at s i).lowest _ better.lowest settled)
    by_turn e in_range (inr later) (inr left) = inr (left.0 ∙ sym better.place, later)
    by_turn e in_range (inl now) (inr left) =
        let node : node_at s p ≡ f.node = ap (node_at s) left.0 ∙ (frames.each i lt).node ∙ sym better.node in
        inl (rw node (better.tried e (rw node at in_range) left.1 now))

    by_place : (p ≡ (frame_at s i).place) ⊎ ((r : ℕ) × ((frame_at s i).lowest ≤ r) × (r < p) × Reaches g (node_at s p) (node_at s r)) → (p ≡ f.place) ⊎ ((r : ℕ) × (f.lowest ≤ r) × (r < p) × Reaches g (node_at s p) (node_at s r))
    by_place (inl own) = inl (own ∙ sym better.place)
    by_place (inr back) = inr (back.0, omega (arith, back.1, better.lowest), back.2, back.3)

    by_frame : (j ≡ i) ⊎ (j ≢ i) → IsTried g (with_frame s i f) (frame_at (with_frame s i f) j) p
    by_frame (inl same) =
        let old : IsTried g s (frame_at s i) p = subst (λ k. IsTried g s (frame_at s k) p) same (tried j p was_within) in
        rw (same, this_frame s i f lt) (record { targets = λ e in_range. by_turn e in_range (cases_lt e f.next) (old.targets e in_range); climbs = by_place old.climbs })
    by_frame (inr apart) =
        let old = tried j p was_within in
        rw (other_frame s i j f apart) (record { targets = old.targets; climbs = old.climbs })

pub better_search : (g : List (List ℕ)) (s : State) (i : ℕ) (f : Frame) → IsSearch g s → i < length s.frames → Betters g s (frame_at s i) f → IsSearch g (with_frame s i f)
better_search g s i f kept lt better = record {
  marks = record { size = marks.size; open_at = marks.open_at; on_path = marks.on_path; done_at = marks.done_at; in_order = marks.in_order; once = marks.once };
  done = record { size = done.size; closed = done.closed; right = done.right; first = done.first };
  frames = better_frames g s i f kept.frames lt better;
  tried = better_tried g s i f kept.frames lt better kept.tried;
}
  where
    marks : MarksTell (length g) s
    marks = kept.marks

    done : DoneIsRight g s
    done = kept.done
