-- The last part of the path goes into the order: what the search keeps.
use Rattle.std.proofs.Common.{◌≡◌, ◌↔◌, ℕ, ◌+◌, ◌-◌, ◌<◌, ◌≤◌, ◌⊎◌, inl, inr, List, false, length, get_or, drop, refl, sym, ap, subst, ◌∙◌, arith}
use Rattle.std.specs.Prelude.{IsTrue}
use Rattle.std.proofs.lemmas.Bool.{cases_lt}
use Rattle.graph_cycles.specs.declared.search.Mark.{Mark}
use Rattle.graph_cycles.specs.declared.search.Mark.TheVariants.{Unseen, Open, Done}
use Rattle.graph_cycles.specs.Graph.{targets_of, Leads, Reaches, OnCycle}
use Rattle.graph_cycles.specs.Cycles.{IsBefore}
use Rattle.graph_cycles.specs.Kept.{MarksTell, DoneIsRight, IsFrame, AreFrames, IsWithin, IsSettled, IsTried, IsSearch}
use Rattle.graph_cycles.specs.Searching.{State, mark_of, node_at, frame_at, IsAround}
use Rattle.graph_cycles.proofs.ClosedParts.{IsClosing, from, last_frame, length-path, same_node, length-frames, same_frame, length-order, old_order, new_order, in_part, outside, part_node, stays_done, stays_open, stays_unseen, becomes_done, InPart, was_done, same_places, targets_settled, part_reaches, around_is_cycle}

-- a node with two marks is none
clash : (s : State) (v : ℕ) (m n : Mark) → mark_of s v ≡ m → mark_of s v ≡ n → m ≡ n
clash s v m n one two = sym one ∙ two

-- an entry of the new order: an old one, or a node of the part

abbrev IsOld : State → State → ℕ → Type 0
IsOld s s' i = (i < length s.order) × (get_or s'.order i 0 ≡ get_or s.order i 0)

abbrev IsNew : State → ℕ → State → ℕ → Type 0
IsNew s k s' i = (p : ℕ) × (from s k ≤ p) × (p < length s.path) × (p ≡ from s k + (i - length s.order)) × (length s.order ≤ i) × (get_or s'.order i 0 ≡ node_at s p)

entry : (g : List (List ℕ)) (s : State) (k : ℕ) (s' : State) → IsClosing g s k s' → (i : ℕ) → i < length s'.order → IsOld s s' i ⊎ IsNew s k s' i
entry g s k s' c i within = by_length (cases_lt i (length s.order))
  where
    by_length : (i < length s.order) ⊎ (length s.order ≤ i) → IsOld s s' i ⊎ IsNew s k s' i
    by_length (inl before) = inl (before, old_order g s k s' c i before)
    by_length (inr behind) = inr (from s k + (i - length s.order), omega arith, omega (arith, length-order g s k s' c), refl, behind, new_order g s k s' c i behind)

old_mark : (g : List (List ℕ)) (s : State) (k : ℕ) (s' : State) → IsClosing g s k s' → (i : ℕ) → IsOld s s' i → mark_of s (get_or s'.order i 0) ≡ Done
old_mark g s k s' c i old = rw old.1 (c.kept.marks.done_at i old.0).1

new_mark : (g : List (List ℕ)) (s : State) (k : ℕ) (s' : State) → IsClosing g s k s' → (i : ℕ) (new : IsNew s k s' i) → mark_of s (get_or s'.order i 0) ≡ Open new.0
new_mark g s k s' c i new = rw new.5 (c.kept.marks.open_at new.0 new.2).1

pub closed_marks : (g : List (List ℕ)) (s : State) (k : ℕ) (s' : State) → IsClosing g s k s' → MarksTell (length g) s'
closed_marks g s k s' c = record {
  size = c.closes.marks.size ∙ tell.size;
  open_at = λ p on.
      let before : p < from s k = omega (arith, length-path g s k s' c) in
      let old = tell.open_at p (omega (arith, (last_frame g s k s' c).on_path)) in
      rw (same_node g s k s' c p before) (old.0, stays_open g s k s' c (node_at s p) p old.1 before);
  on_path = λ v p is. by_mark v p is (mark_of s v) refl;
  done_at = λ i within. by_entry i (entry g s k s' c i within);
  in_order = λ v is. by_was v (was_done g s k s' c v is);
  once = λ i j one two same. by_both i j same (entry g s k s' c i one) (entry g s k s' c j two);
}
  where
    tell : MarksTell (length g) s
    tell = c.kept.marks

    by_place : (v p q : ℕ) → mark_of s' v ≡ Open p → mark_of s v ≡ Open q → (q < from s k) ⊎ (from s k ≤ q) → (p < length s'.path) × (node_at s' p ≡ v)
    by_place v p q is was (inl before) =
        let marks = clash s' v (Open p) (Open q) is (stays_open g s k s' c v q was before) in
        let same : p ≡ q = cc in
        let old = tell.on_path v q was in
        let lt : p < from s k = omega arith in
        (omega (arith, length-path g s k s' c), same_node g s k s' c p lt ∙ ap (node_at s) same ∙ old.1)
    by_place v p q is was (inr behind) =
        let marks = clash s' v (Open p) Done is (becomes_done g s k s' c v q was behind) in
        absurd cc

    by_mark : (v p : ℕ) → mark_of s' v ≡ Open p → (m : Mark) → mark_of s v ≡ m → (p < length s'.path) × (node_at s' p ≡ v)
    by_mark v p is Unseen was = let marks = clash s' v (Open p) Unseen is (stays_unseen g s k s' c v was) in absurd cc
    by_mark v p is (Open q) was = by_place v p q is was (cases_lt q (from s k))
    by_mark v p is Done was = let marks = clash s' v (Open p) Done is (stays_done g s k s' c v was) in absurd cc

    by_entry : (i : ℕ) → IsOld s s' i ⊎ IsNew s k s' i → (get_or s'.order i 0 < length g) × (mark_of s' (get_or s'.order i 0) ≡ Done)
    by_entry i (inl old) = rw old.1 ((tell.done_at i old.0).0, stays_done g s k s' c _ (tell.done_at i old.0).1)
    by_entry i (inr new) = rw new.5 ((tell.open_at new.0 new.2).0, in_part g s k s' c new.0 new.1 new.2)

    by_was : (v : ℕ) → (mark_of s v ≡ Done) ⊎ InPart s k v → (i : ℕ) × (i < length s'.order) × (get_or s'.order i 0 ≡ v)
    by_was v (inl was) =
        let old = tell.in_order v was in
        (old.0, omega (arith, old.1, length-order g s k s' c), old_order g s k s' c old.0 old.1 ∙ old.2)
    by_was v (inr at) =
        let i = length s.order + (at.0 - from s k) in
        let place : from s k + (i - length s.order) ≡ at.0 = omega (arith, at.1) in
        (i, omega (arith, at.1, at.2, length-order g s k s' c), new_order g s k s' c i (omega arith) ∙ ap (node_at s) place ∙ at.3)

    by_both : (i j : ℕ) → get_or s'.order i 0 ≡ get_or s'.order j 0 → IsOld s s' i ⊎ IsNew s k s' i → IsOld s s' j ⊎ IsNew s k s' j → i ≡ j
    by_both i j same (inl one) (inl two) = tell.once i j one.0 two.0 (sym one.1 ∙ same ∙ two.1)
    by_both i j same (inl one) (inr two) =
        let marks : Done ≡ Open two.0 = sym (old_mark g s k s' c i one) ∙ ap (mark_of s) same ∙ new_mark g s k s' c j two in
        absurd cc
    by_both i j same (inr one) (inl two) =
        let marks : Open one.0 ≡ Done = sym (new_mark g s k s' c i one) ∙ ap (mark_of s) same ∙ old_mark g s k s' c j two in
        absurd cc
    by_both i j same (inr one) (inr two) =
        let places : one.0 ≡ two.0 = same_places g s c.kept one.0 two.0 one.2 two.2 (sym one.5 ∙ same ∙ two.5) in
        omega (arith, one.3, one.4, two.3, two.4)

-- a settled target of a node that is done now is done now
settled_done : (g : List (List ℕ)) (s : State) (k : ℕ) (s' : State) → IsClosing g s k s' → (t : ℕ) → IsSettled s (from s k) t → mark_of s' t ≡ Done
settled_done g s k s' c t (inl was) = stays_done g s k s' c t was
settled_done g s k s' c t (inr at) = becomes_done g s k s' c t at.0 at.2 at.1

pub closed_done : (g : List (List ℕ)) (s : State) (k : ℕ) (s' : State) → IsClosing g s k s' → DoneIsRight g s'
closed_done g s k s' c = record {
  size = c.closes.cyclic.size ∙ right.size;
  closed = λ v t is leads. by_was v t leads (was_done g s k s' c v is);
  right = λ v is. by_right v (was_done g s k s' c v is);
  first = λ i t within leads. by_entry i t leads (entry g s k s' c i within);
}
  where
    right : DoneIsRight g s
    right = c.kept.done

    by_was : (v t : ℕ) → Leads g v t → (mark_of s v ≡ Done) ⊎ InPart s k v → mark_of s' t ≡ Done
    by_was v t leads (inl was) = stays_done g s k s' c t (right.closed v t was leads)
    by_was v t leads (inr at) =
        let from_place : Leads g (node_at s at.0) t = subst (λ u. Leads g u t) (sym at.3) leads in
        settled_done g s k s' c t (targets_settled g s k s' c at.0 t at.1 at.2 from_place)

    by_right : (v : ℕ) → (mark_of s v ≡ Done) ⊎ InPart s k v → IsTrue (get_or s'.cyclic v false) ↔ OnCycle g v
    by_right v (inl was) =
        let same : get_or s'.cyclic v false ≡ get_or s.cyclic v false = c.closes.cyclic.others v (outside g s k s' c v (λ p opened. let e = clash s v Done (Open p) was opened in absurd cc)) in
        rw same (right.right v was)
    by_right v (inr at) =
        let j = at.0 - from s k in
        let noted : IsTrue (get_or s'.cyclic (node_at s at.0) false) ↔ IsAround g (drop (from s k) s.path) (node_at s at.0) = subst (λ u. IsTrue (get_or s'.cyclic u false) ↔ IsAround g (drop (from s k) s.path) u) (part_node s k at.0 at.1) (c.closes.cyclic.noted j (omega (arith, at.1, at.2))) in
        let around = around_is_cycle g s k s' c at.0 at.1 at.2 in
        subst (λ u. IsTrue (get_or s'.cyclic u false) ↔ OnCycle g u) at.3 (λ is. around.0 (noted.0 is), λ cycle. noted.1 (around.1 cycle))

    moved : (i t : ℕ) → i < length s.order → get_or s'.order i 0 ≡ get_or s.order i 0 → IsBefore s.order i t ⊎ Reaches g t (get_or s.order i 0) → IsBefore s'.order i t ⊎ Reaches g t (get_or s'.order i 0)
    moved i t lt same (inl before) = inl (before.0, before.1, old_order g s k s' c before.0 (omega (arith, before.1)) ∙ before.2)
    moved i t lt same (inr back) = let reaches : Reaches g t (get_or s'.order i 0) = rw same back in inr reaches

    by_settled : (i t : ℕ) (new : IsNew s k s' i) → IsSettled s (from s k) t → IsBefore s'.order i t ⊎ Reaches g t (get_or s'.order i 0)
    by_settled i t new (inl was) =
        let old = c.kept.marks.in_order t was in
        inl (old.0, omega (arith, old.1, new.4), old_order g s k s' c old.0 old.1 ∙ old.2)
    by_settled i t new (inr at) =
        let on = c.kept.marks.on_path t at.0 at.2 in
        let back : Reaches g (node_at s at.0) (node_at s new.0) = part_reaches g s k s' c at.0 new.0 at.1 on.0 new.1 new.2 in
        let reaches : Reaches g t (get_or s'.order i 0) = rw new.5 (subst (λ u. Reaches g u (node_at s new.0)) on.1 back) in
        inr reaches

    by_entry : (i t : ℕ) → Leads g (get_or s'.order i 0) t → IsOld s s' i ⊎ IsNew s k s' i → IsBefore s'.order i t ⊎ Reaches g t (get_or s'.order i 0)
    by_entry i t leads (inl old) = moved i t old.0 old.1 (right.first i t old.0 (rw old.1 at leads))
    by_entry i t leads (inr new) = by_settled i t new (targets_settled g s k s' c new.0 t new.1 new.2 (rw new.5 at leads))

pub closed_frames : (g : List (List ℕ)) (s : State) (k : ℕ) (s' : State) → IsClosing g s k s' → AreFrames g s'
closed_frames g s k s' c = record {
  each = λ i within. let lt : i < k = omega (arith, length-frames g s k s' c) in rw (same_frame g s k s' c i lt) (old_frame i lt);
  rising = λ i j before within.
      let two : j < k = omega (arith, length-frames g s k s' c) in
      let one : i < k = omega arith in
      rw (same_frame g s k s' c i one, same_frame g s k s' c j two) (frames.rising i j before (omega (arith, c.last)));
  first = λ some.
      let lt : 0 < k = omega (arith, length-frames g s k s' c) in
      rw (same_frame g s k s' c 0 lt) (frames.first (omega (arith, c.last)));
  none = λ none.
      let only : k ≡ 0 = omega (arith, length-frames g s k s' c) in
      let place : from s k ≡ 0 = ap (from s) only ∙ frames.first (omega (arith, c.last)) in
      omega (arith, length-path g s k s' c);
}
  where
    frames : AreFrames g s
    frames = c.kept.frames

    old_frame : (i : ℕ) → i < k → IsFrame g s' (frame_at s i)
    old_frame i lt =
        let old = frames.each i (omega (arith, c.last)) in
        let before : (frame_at s i).place < from s k = frames.rising i k lt (omega (arith, c.last)) in
        record {
          on_path = omega (arith, length-path g s k s' c);
          node = same_node g s k s' c (frame_at s i).place before ∙ old.node;
          lowest = old.lowest;
          back = rw (same_node g s k s' c (frame_at s i).lowest (omega (arith, old.lowest))) old.back;
          on = λ p le on. let lt : p < from s k = omega (arith, length-path g s k s' c) in rw (same_node g s k s' c p lt) (old.on p le (omega (arith, (last_frame g s k s' c).on_path)));
        }

still_settled : (g : List (List ℕ)) (s : State) (k : ℕ) (s' : State) → IsClosing g s k s' → (low v : ℕ) → IsSettled s low v → IsSettled s' low v
still_settled g s k s' c low v (inl was) = inl (stays_done g s k s' c v was)
still_settled g s k s' c low v (inr at) = by_place (cases_lt at.0 (from s k))
  where
    by_place : (at.0 < from s k) ⊎ (from s k ≤ at.0) → IsSettled s' low v
    by_place (inl before) = inr (at.0, at.1, stays_open g s k s' c v at.0 at.2 before)
    by_place (inr behind) = inl (becomes_done g s k s' c v at.0 at.2 behind)

pub closed_tried : (g : List (List ℕ)) (s : State) (k : ℕ) (s' : State) → IsClosing g s k s' → (i p : ℕ) → IsWithin s' i p → IsTried g s' (frame_at s' i) p
closed_tried g s k s' c i p within =
    rw (same_frame g s k s' c i lt) (record { targets = rw (same_node g s k s' c p before) (λ e in_range. by_turn e (old.targets e in_range)); climbs = by_place old.climbs })
  where
    lt : i < k
    lt = omega (arith, within.frame, length-frames g s k s' c)

    before : p < from s k
    before = omega (arith, within.on_path, length-path g s k s' c)

    next : (i + 1 < k) ⊎ (k ≤ i + 1) → i + 1 < length s.frames → p < (frame_at s (i + 1)).place
    next (inl more) some = rw (same_frame g s k s' c (i + 1) more) at (within.before (omega (arith, length-frames g s k s' c)))
    next (inr last) some = let is : i + 1 ≡ k = omega (arith, lt) in rw is before

    old : IsTried g s (frame_at s i) p
    old = c.kept.tried i p (record {
      frame = omega (arith, lt, c.last);
      from = rw (same_frame g s k s' c i lt) at within.from;
      on_path = omega (arith, before, (last_frame g s k s' c).on_path);
      before = next (cases_lt (i + 1) k);
    })

    by_turn : (e : ℕ) → IsSettled s (frame_at s i).lowest (get_or (targets_of g (node_at s p)) e 0) ⊎ ((p ≡ (frame_at s i).place) × ((frame_at s i).next ≤ e)) → IsSettled s' (frame_at s i).lowest (get_or (targets_of g (node_at s p)) e 0) ⊎ ((p ≡ (frame_at s i).place) × ((frame_at s i).next ≤ e))
    by_turn e (inl settled) = inl (still_settled g s k s' c (frame_at s i).lowest _ settled)
    by_turn e (inr left) = inr left

    by_place : (p ≡ (frame_at s i).place) ⊎ ((r : ℕ) × ((frame_at s i).lowest ≤ r) × (r < p) × Reaches g (node_at s p) (node_at s r)) → (p ≡ (frame_at s i).place) ⊎ ((r : ℕ) × ((frame_at s i).lowest ≤ r) × (r < p) × Reaches g (node_at s' p) (node_at s' r))
    by_place (inl own) = inl own
    by_place (inr back) =
        let reaches : Reaches g (node_at s' p) (node_at s' back.0) = rw (same_node g s k s' c p before, same_node g s k s' c back.0 (omega (arith, back.2, before))) back.3 in
        inr (back.0, back.1, back.2, reaches)

pub closed_search : (g : List (List ℕ)) (s : State) (k : ℕ) (s' : State) → IsClosing g s k s' → IsSearch g s'
closed_search g s k s' c = record {
  marks = closed_marks g s k s' c;
  done = closed_done g s k s' c;
  frames = closed_frames g s k s' c;
  tried = closed_tried g s k s' c;
}
