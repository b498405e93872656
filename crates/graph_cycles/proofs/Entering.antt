-- A node goes onto the path: what the search keeps.
use Rattle.std.proofs.Common.{◌≡◌, ◌≢◌, ℕ, ◌+◌, ◌<◌, ◌≤◌, ◌⊎◌, inl, inr, List, [], ◌∷◌, length, get_or, refl, sym, ap, subst, ◌∙◌, arith}
use Rattle.std.proofs.lemmas.List.{get_or-set_other, get_or-set_same, get_or_push, get_or_append_left, length-set, length_push}
use Rattle.std.proofs.lemmas.Bool.{cases_eq, cases_lt}
use Rattle.graph_cycles.specs.declared.search.Frame.{Frame}
use Rattle.graph_cycles.specs.declared.search.Mark.{Mark}
use Rattle.graph_cycles.specs.declared.search.Mark.TheVariants.{Unseen, Open, Done}
use Rattle.graph_cycles.specs.Graph.{targets_of, Reaches}
use Rattle.graph_cycles.specs.Kept.{MarksTell, DoneIsRight, IsFrame, AreFrames, IsWithin, IsSettled, IsTried, IsSearch, GoesOn}
use Rattle.graph_cycles.specs.Searching.{State, mark_of, node_at, frame_at, entered, opened}
use Rattle.graph_cycles.proofs.Ways.{reaches_itself}

-- the parts of the new state

same_mark : (s : State) (v t : ℕ) → v ≢ t → mark_of (entered s t) v ≡ mark_of s v
same_mark s v t apart = get_or-set_other s.marks t v _ Unseen apart

pub new_mark : (s : State) (t : ℕ) → t < length s.marks → mark_of (entered s t) t ≡ Open (length s.path)
new_mark s t lt = get_or-set_same s.marks t _ Unseen lt

pub same_node : (s : State) (t p : ℕ) → p < length s.path → node_at (entered s t) p ≡ node_at s p
same_node s t p lt = get_or_append_left s.path (t ∷ []) 0 p lt

new_node : (s : State) (t : ℕ) → node_at (entered s t) (length s.path) ≡ t
new_node s t = get_or_push s.path t 0 (length s.path) refl

pub same_frame : (s : State) (t i : ℕ) → i < length s.frames → frame_at (entered s t) i ≡ frame_at s i
same_frame s t i lt = get_or_append_left s.frames _ _ i lt

new_frame : (s : State) (t : ℕ) → frame_at (entered s t) (length s.frames) ≡ opened s t
new_frame s t = get_or_push s.frames _ _ (length s.frames) refl

-- a node with another mark is another node
other : (s : State) (v t : ℕ) (m : Mark) → mark_of s t ≡ Unseen → mark_of s v ≡ m → (m ≡ Unseen → ⊥) → v ≢ t
other s v t m unseen is not same = not (sym is ∙ ap (mark_of s) same ∙ unseen)

done_apart : Done ≡ Unseen → ⊥
done_apart e = cc

open_apart : (p : ℕ) → Open p ≡ Unseen → ⊥
open_apart p e = cc

pub entered_marks : (n t : ℕ) (s : State) → MarksTell n s → t < n → mark_of s t ≡ Unseen → MarksTell n (entered s t)
entered_marks n t s tell lt unseen = record {
  size = length-set s.marks t _ ∙ tell.size;
  open_at = λ p on. by_place p (cases_lt p (length s.path)) on;
  on_path = λ v p is. by_node v p (cases_eq v t) is;
  done_at = λ i within.
      let old = tell.done_at i within in
      (old.0, same_mark s _ t (other s _ t Done unseen old.1 done_apart) ∙ old.1);
  in_order = λ v is. done_before v (cases_eq v t) is;
  once = tell.once;
}
  where
    by_place : (p : ℕ) → (p < length s.path) ⊎ (length s.path ≤ p) → p < length (entered s t).path → (node_at (entered s t) p < n) × (mark_of (entered s t) (node_at (entered s t) p) ≡ Open p)
    by_place p (inl before) on =
        let old = tell.open_at p before in
        let same = same_node s t p before in
        let mark = same_mark s (node_at s p) t (other s _ t (Open p) unseen old.1 (open_apart p)) ∙ old.1 in
        rw same (old.0, mark)
    by_place p (inr behind) on =
        let here : p ≡ length s.path = omega (arith, length_push s.path t) in
        rw (here, new_node s t) (lt, new_mark s t (omega (arith, tell.size)))

    by_node : (v p : ℕ) → (v ≡ t) ⊎ (v ≢ t) → mark_of (entered s t) v ≡ Open p → (p < length (entered s t).path) × (node_at (entered s t) p ≡ v)
    by_node v p (inl same) is =
        let marks : Open (length s.path) ≡ Open p = sym (new_mark s t (omega (arith, tell.size))) ∙ ap (mark_of (entered s t)) (sym same) ∙ is in
        let here : length s.path ≡ p = cc in
        (omega (arith, length_push s.path t), ap (node_at (entered s t)) (sym here) ∙ new_node s t ∙ sym same)
    by_node v p (inr apart) is =
        let old = tell.on_path v p (sym (same_mark s v t apart) ∙ is) in
        (omega (arith, length_push s.path t, old.0), same_node s t p old.0 ∙ old.1)

    done_before : (v : ℕ) → (v ≡ t) ⊎ (v ≢ t) → mark_of (entered s t) v ≡ Done → (i : ℕ) × (i < length s.order) × (get_or s.order i 0 ≡ v)
    done_before v (inl same) is =
        let marks : Open (length s.path) ≡ Done = sym (new_mark s t (omega (arith, tell.size))) ∙ ap (mark_of (entered s t)) (sym same) ∙ is in
        absurd cc
    done_before v (inr apart) is = tell.in_order v (sym (same_mark s v t apart) ∙ is)

-- what was done stays done
kept_mark : (s : State) (v t : ℕ) (m : Mark) → mark_of s t ≡ Unseen → mark_of s v ≡ m → (m ≡ Unseen → ⊥) → mark_of (entered s t) v ≡ m
kept_mark s v t m unseen is not = same_mark s v t (other s v t m unseen is not) ∙ is

-- and nothing else is done
was_done : (s : State) (v t : ℕ) → t < length s.marks → mark_of (entered s t) v ≡ Done → mark_of s v ≡ Done
was_done s v t lt is = by_node (cases_eq v t)
  where
    by_node : (v ≡ t) ⊎ (v ≢ t) → mark_of s v ≡ Done
    by_node (inl same) =
        let marks : Open (length s.path) ≡ Done = sym (new_mark s t lt) ∙ ap (mark_of (entered s t)) (sym same) ∙ is in
        absurd cc
    by_node (inr apart) = sym (same_mark s v t apart) ∙ is

pub entered_done : (g : List (List ℕ)) (t : ℕ) (s : State) → DoneIsRight g s → t < length s.marks → mark_of s t ≡ Unseen → DoneIsRight g (entered s t)
entered_done g t s right lt unseen = record {
  size = right.size;
  closed = λ v u is leads. kept_mark s u t Done unseen (right.closed v u (was_done s v t lt is) leads) done_apart;
  right = λ v is. right.right v (was_done s v t lt is);
  first = right.first;
}

-- a node from which the new one can be reached
abbrev pub IsNext : List (List ℕ) → State → ℕ → Type 0
IsNext g s t = (i : ℕ) → i < length s.frames → Reaches g (frame_at s i).node t

pub entered_frames : (g : List (List ℕ)) (t : ℕ) (s : State) → AreFrames g s → IsNext g s t → AreFrames g (entered s t)
entered_frames g t s frames next = record {
  each = λ i within. by_frame i (cases_lt i (length s.frames)) within;
  rising = λ i j lt within. by_later i j lt (cases_lt j (length s.frames)) within;
  first = λ some. by_first (cases_lt 0 (length s.frames));
  none = λ none. absurd (omega (arith, length_push s.frames (opened s t)));
}
  where
    by_place : (i : ℕ) → i < length s.frames → (p : ℕ) → (p < length s.path) ⊎ (length s.path ≤ p) → (frame_at s i).place ≤ p → p < length (entered s t).path → Reaches g (frame_at s i).node (node_at (entered s t) p)
    by_place i lt p (inl before) from on = rw (same_node s t p before) ((frames.each i lt).on p from before)
    by_place i lt p (inr behind) from on =
        let here : p ≡ length s.path = omega (arith, length_push s.path t) in
        rw (here, new_node s t) (next i lt)

    here_alone : (p : ℕ) → length s.path ≤ p → p < length (entered s t).path → Reaches g t (node_at (entered s t) p)
    here_alone p from on =
        let here : p ≡ length s.path = omega (arith, length_push s.path t) in
        rw (here, new_node s t) (reaches_itself g t)

    own_frame : IsFrame g (entered s t) (opened s t)
    own_frame = record {
      on_path = omega (arith, length_push s.path t);
      node = new_node s t;
      lowest = omega arith;
      back = rw (new_node s t) (reaches_itself g t);
      on = here_alone;
    }

    old_frame : (i : ℕ) → i < length s.frames → IsFrame g (entered s t) (frame_at s i)
    old_frame i lt =
        let old = frames.each i lt in
        record {
          on_path = omega (arith, length_push s.path t, old.on_path);
          node = same_node s t _ old.on_path ∙ old.node;
          lowest = old.lowest;
          back = rw (same_node s t (frame_at s i).lowest (omega (arith, old.on_path, old.lowest))) old.back;
          on = λ p from on. by_place i lt p (cases_lt p (length s.path)) from on;
        }

    by_frame : (i : ℕ) → (i < length s.frames) ⊎ (length s.frames ≤ i) → i < length (entered s t).frames → IsFrame g (entered s t) (frame_at (entered s t) i)
    by_frame i (inl before) within = rw (same_frame s t i before) (old_frame i before)
    by_frame i (inr behind) within =
        let here : i ≡ length s.frames = omega (arith, length_push s.frames (opened s t)) in
        rw (here, new_frame s t) own_frame

    by_later : (i j : ℕ) → i < j → (j < length s.frames) ⊎ (length s.frames ≤ j) → j < length (entered s t).frames → (frame_at (entered s t) i).place < (frame_at (entered s t) j).place
    by_later i j lt (inl before) within = rw (same_frame s t i (omega arith), same_frame s t j before) (frames.rising i j lt before)
    by_later i j lt (inr behind) within =
        let here : j ≡ length s.frames = omega (arith, length_push s.frames (opened s t)) in
        rw (same_frame s t i (omega arith), here, new_frame s t) (frames.each i (omega arith)).on_path

    by_first : (0 < length s.frames) ⊎ (length s.frames ≤ 0) → (frame_at (entered s t) 0).place ≡ 0
    by_first (inl before) = rw (same_frame s t 0 before) (frames.first before)
    by_first (inr behind) =
        let none : length s.frames ≡ 0 = omega arith in
        ap (λ i. (frame_at (entered s t) i).place) (sym none) ∙ ap (λ (f : Frame). f.place) (new_frame s t) ∙ frames.none none

-- a place that belongs to an older frame belonged to it
was_within : (g : List (List ℕ)) (t : ℕ) (s : State) (i p : ℕ) → AreFrames g s → i < length s.frames → IsWithin (entered s t) i p → IsWithin s i p
was_within g t s i p frames lt within = record {
  frame = lt;
  from = rw (same_frame s t i lt) at within.from;
  on_path = by_next (cases_lt (i + 1) (length s.frames));
  before = λ more. rw (same_frame s t (i + 1) more) at (within.before (omega (arith, length_push s.frames (opened s t))));
}
  where
    by_next : (i + 1 < length s.frames) ⊎ (length s.frames ≤ i + 1) → p < length s.path
    by_next (inl more) =
        let before = rw (same_frame s t (i + 1) more) at (within.before (omega (arith, length_push s.frames (opened s t)))) in
        omega (arith, before, (frames.each (i + 1) more).on_path)
    by_next (inr last) =
        let here : i + 1 ≡ length s.frames = omega arith in
        rw (here, new_frame s t) at (within.before (omega (arith, length_push s.frames (opened s t))))

still_settled : (s : State) (t low v : ℕ) → mark_of s t ≡ Unseen → IsSettled s low v → IsSettled (entered s t) low v
still_settled s t low v unseen (inl is) = inl (kept_mark s v t Done unseen is done_apart)
still_settled s t low v unseen (inr at) = inr (at.0, at.1, kept_mark s v t (Open at.0) unseen at.2 (open_apart at.0))

still_tried : (g : List (List ℕ)) (t : ℕ) (s : State) (f : Frame) (p : ℕ) → p < length s.path → mark_of s t ≡ Unseen → IsTried g s f p → IsTried g (entered s t) f p
still_tried g t s f p on unseen tried = record {
  targets = rw (same_node s t p on) (λ e lt. by_turn e (tried.targets e lt));
  climbs = by_place tried.climbs;
}
  where
    by_turn : (e : ℕ) → IsSettled s f.lowest (get_or (targets_of g (node_at s p)) e 0) ⊎ ((p ≡ f.place) × (f.next ≤ e)) → IsSettled (entered s t) f.lowest (get_or (targets_of g (node_at s p)) e 0) ⊎ ((p ≡ f.place) × (f.next ≤ e))
    by_turn e (inl settled) = inl (still_settled s t f.lowest _ unseen settled)
    by_turn e (inr left) = inr left

    by_place : (p ≡ f.place) ⊎ ((r : ℕ) × (f.lowest ≤ r) × (r < p) × Reaches g (node_at s p) (node_at s r)) → (p ≡ f.place) ⊎ ((r : ℕ) × (f.lowest ≤ r) × (r < p) × Reaches g (node_at (entered s t) p) (node_at (entered s t) r))
    by_place (inl own) = inl own
    by_place (inr back) =
        let r = back.0 in
        let reaches : Reaches g (node_at (entered s t) p) (node_at (entered s t) r) = rw (same_node s t p on, same_node s t r (omega (arith, back.2))) back.3 in
        inr (r, back.1, back.2, reaches)

pub entered_tried : (g : List (List ℕ)) (t : ℕ) (s : State) → AreFrames g s → mark_of s t ≡ Unseen → ((i p : ℕ) → IsWithin s i p → IsTried g s (frame_at s i) p) → (i p : ℕ) → IsWithin (entered s t) i p → IsTried g (entered s t) (frame_at (entered s t) i) p
entered_tried g t s frames unseen tried i p within = by_frame (cases_lt i (length s.frames))
  where
    by_frame : (i < length s.frames) ⊎ (length s.frames ≤ i) → IsTried g (entered s t) (frame_at (entered s t) i) p
    by_frame (inl before) =
        let old = was_within g t s i p frames before within in
        rw (same_frame s t i before) (still_tried g t s (frame_at s i) p old.on_path unseen (tried i p old))
    by_frame (inr behind) =
        let here : i ≡ length s.frames = omega (arith, length_push s.frames (opened s t), within.frame) in
        let from = rw (here, new_frame s t) at within.from in
        let own : p ≡ length s.path = omega (arith, length_push s.path t, from, within.on_path) in
        rw (here, new_frame s t) (record { targets = λ e lt. inr (own, omega arith); climbs = inl own })

pub entered_search : (g : List (List ℕ)) (t : ℕ) (s : State) → IsSearch g s → t < length g → mark_of s t ≡ Unseen → IsNext g s t → IsSearch g (entered s t)
entered_search g t s kept lt unseen next = record {
  marks = entered_marks (length g) t s kept.marks lt unseen;
  done = entered_done g t s kept.done (omega (arith, kept.marks.size)) unseen;
  frames = entered_frames g t s kept.frames next;
  tried = entered_tried g t s kept.frames unseen kept.tried;
}

-- no node that was met is forgotten
pub entered_met : (s : State) (t v : ℕ) → mark_of s t ≡ Unseen → mark_of (entered s t) v ≡ Unseen → mark_of s v ≡ Unseen
entered_met s t v is unseen = by_node (cases_eq v t)
  where
    by_node : (v ≡ t) ⊎ (v ≢ t) → mark_of s v ≡ Unseen
    by_node (inl here) = ap (mark_of s) here ∙ is
    by_node (inr apart) = sym (same_mark s v t apart) ∙ unseen

-- between two walks a node is met that wasn't
pub starts : (g : List (List ℕ)) (s : State) (t : ℕ) (s' : State) → IsSearch g s → length s.frames ≡ 0 → t < length g → mark_of s t ≡ Unseen → s' ≡ entered s t → GoesOn g s s' × (mark_of s' t ≢ Unseen)
starts g s t s' kept none lt unseen is =
    let next : IsNext g s t = λ i within. absurd (omega arith) in
    let on : GoesOn g s (entered s t) = record { kept = entered_search g t s kept lt unseen next; met = λ v new. entered_met s t v unseen new } in
    let met : mark_of (entered s t) t ≢ Unseen = λ new. open_apart (length s.path) (sym (new_mark s t (omega (arith, kept.marks.size))) ∙ new) in
    subst (λ x. GoesOn g s x × (mark_of x t ≢ Unseen)) (sym is) (on, met)
