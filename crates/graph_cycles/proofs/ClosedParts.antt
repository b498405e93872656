-- The last part of the path goes into the order: what that makes of marks, path and order, and why its nodes lead to
-- each other.
use Rattle.std.proofs.Common.{◌≡◌, ◌≢◌, ◌↔◌, ℕ, zero, suc, ◌+◌, ◌-◌, ◌<◌, ◌≤◌, ◌⊎◌, inl, inr, List, length, get_or, drop, refl, sym, ap, subst, ◌∙◌, arith, length-append, length-drop}
use Rattle.std.proofs.lemmas.List.{get_or-take, get_or-drop, length-take-le, get_or_append_left, get_or-append_right}
use Rattle.std.proofs.lemmas.Bool.{cases_eq, cases_lt}
use Rattle.graph_cycles.specs.declared.search.Mark.{Mark}
use Rattle.graph_cycles.specs.declared.search.Mark.TheVariants.{Unseen, Open, Done}
use Rattle.graph_cycles.specs.Graph.{targets_of, Leads, Reaches, Way, OnCycle}
use Rattle.graph_cycles.specs.Kept.{DoneIsRight, IsFrame, IsWithin, IsSettled, IsSearch}
use Rattle.graph_cycles.specs.Searching.{State, mark_of, node_at, frame_at, popped, Closes, IsAround}
use Rattle.graph_cycles.proofs.Leaving.{length-popped, popped_frame}
use Rattle.graph_cycles.proofs.Ways.{index_of, reaches_itself, reaches_then, cycle_through, there_and_back}

-- The frame k is the last and its targets were tried; no way leads further back than its node, and the path from there on
-- is closed.
pub record IsClosing (g : List (List ℕ)) (s : State) (k : ℕ) (s' : State) : Type 0 where
  pub kept : IsSearch g s
  pub last : length s.frames ≡ k + 1
  pub tried : length (targets_of g (frame_at s k).node) ≤ (frame_at s k).next
  pub lowest : (frame_at s k).lowest ≡ (frame_at s k).place
  pub closes : Closes g (frame_at s k).place (popped s) s'

-- where the part begins
abbrev pub from : State → ℕ → ℕ
from s k = (frame_at s k).place

pub last_frame : (g : List (List ℕ)) (s : State) (k : ℕ) (s' : State) → IsClosing g s k s' → IsFrame g s (frame_at s k)
last_frame g s k s' c = c.kept.frames.each k (omega (arith, c.last))

-- the path and the order

pub length-path : (g : List (List ℕ)) (s : State) (k : ℕ) (s' : State) → IsClosing g s k s' → length s'.path ≡ from s k
length-path g s k s' c = ap length c.closes.path ∙ length-take-le (from s k) s.path (omega (arith, (last_frame g s k s' c).on_path))

pub same_node : (g : List (List ℕ)) (s : State) (k : ℕ) (s' : State) → IsClosing g s k s' → (p : ℕ) → p < from s k → node_at s' p ≡ node_at s p
same_node g s k s' c p lt = ap (λ path. get_or path p 0) c.closes.path ∙ get_or-take (from s k) s.path p 0 lt

pub length-frames : (g : List (List ℕ)) (s : State) (k : ℕ) (s' : State) → IsClosing g s k s' → length s'.frames ≡ k
length-frames g s k s' c = omega (arith, ap length c.closes.frames, length-popped s, c.last)

pub same_frame : (g : List (List ℕ)) (s : State) (k : ℕ) (s' : State) → IsClosing g s k s' → (i : ℕ) → i < k → frame_at s' i ≡ frame_at s i
same_frame g s k s' c i lt = ap (λ frames. get_or frames i (record { node = 0; place = 0; next = 0; lowest = 0 })) c.closes.frames ∙ popped_frame s i (omega (arith, c.last))

pub length-order : (g : List (List ℕ)) (s : State) (k : ℕ) (s' : State) → IsClosing g s k s' → length s'.order ≡ length s.order + (length s.path - from s k)
length-order g s k s' c = omega (arith, ap length c.closes.order, length-append s.order (drop (from s k) s.path), length-drop (from s k) s.path)

pub old_order : (g : List (List ℕ)) (s : State) (k : ℕ) (s' : State) → IsClosing g s k s' → (i : ℕ) → i < length s.order → get_or s'.order i 0 ≡ get_or s.order i 0
old_order g s k s' c i lt = ap (λ order. get_or order i 0) c.closes.order ∙ get_or_append_left s.order (drop (from s k) s.path) 0 i lt

pub new_order : (g : List (List ℕ)) (s : State) (k : ℕ) (s' : State) → IsClosing g s k s' → (i : ℕ) → length s.order ≤ i → get_or s'.order i 0 ≡ node_at s (from s k + (i - length s.order))
new_order g s k s' c i le =
    ap (λ order. get_or order i 0) c.closes.order
    ∙ get_or-append_right s.order (drop (from s k) s.path) (length s.order) i 0 refl le
    ∙ get_or-drop (from s k) s.path (i - length s.order) 0

-- the marks

pub part_node : (s : State) (k p : ℕ) → from s k ≤ p → get_or (drop (from s k) s.path) (p - from s k) 0 ≡ node_at s p
part_node s k p le = get_or-drop (from s k) s.path (p - from s k) 0 ∙ ap (node_at s) (let e : from s k + (p - from s k) ≡ p = omega arith in e)

pub in_part : (g : List (List ℕ)) (s : State) (k : ℕ) (s' : State) → IsClosing g s k s' → (p : ℕ) → from s k ≤ p → p < length s.path → mark_of s' (node_at s p) ≡ Done
in_part g s k s' c p le lt = subst (λ v. mark_of s' v ≡ Done) (part_node s k p le) (c.closes.marks.done (p - from s k) (omega arith))

-- what isn't in the part has no mark of a place of it
pub outside : (g : List (List ℕ)) (s : State) (k : ℕ) (s' : State) → IsClosing g s k s' → (v : ℕ) → ((p : ℕ) → mark_of s v ≡ Open p → p < from s k) → (j : ℕ) → j < length s.path - from s k → get_or (drop (from s k) s.path) j 0 ≢ v
outside g s k s' c v low j lt same =
    let p = from s k + j in
    let node : node_at s p ≡ v = sym (get_or-drop (from s k) s.path j 0) ∙ same in
    let mark = (c.kept.marks.open_at p (omega arith)).1 in
    let before : p < from s k = low p (ap (mark_of s) (sym node) ∙ mark) in
    omega (arith, before)

pub stays : (g : List (List ℕ)) (s : State) (k : ℕ) (s' : State) → IsClosing g s k s' → (v : ℕ) → ((p : ℕ) → mark_of s v ≡ Open p → p < from s k) → mark_of s' v ≡ mark_of s v
stays g s k s' c v low = c.closes.marks.others v (outside g s k s' c v low)

pub stays_done : (g : List (List ℕ)) (s : State) (k : ℕ) (s' : State) → IsClosing g s k s' → (v : ℕ) → mark_of s v ≡ Done → mark_of s' v ≡ Done
stays_done g s k s' c v is = stays g s k s' c v (λ p opened. let e : Done ≡ Open p = sym is ∙ opened in absurd cc) ∙ is

pub stays_open : (g : List (List ℕ)) (s : State) (k : ℕ) (s' : State) → IsClosing g s k s' → (v q : ℕ) → mark_of s v ≡ Open q → q < from s k → mark_of s' v ≡ Open q
stays_open g s k s' c v q is lt =
    stays g s k s' c v (λ p opened. let e : Open q ≡ Open p = sym is ∙ opened in let same : q ≡ p = cc in omega arith) ∙ is

pub stays_unseen : (g : List (List ℕ)) (s : State) (k : ℕ) (s' : State) → IsClosing g s k s' → (v : ℕ) → mark_of s v ≡ Unseen → mark_of s' v ≡ Unseen
stays_unseen g s k s' c v is = stays g s k s' c v (λ p opened. let e : Unseen ≡ Open p = sym is ∙ opened in absurd cc) ∙ is

pub becomes_done : (g : List (List ℕ)) (s : State) (k : ℕ) (s' : State) → IsClosing g s k s' → (v q : ℕ) → mark_of s v ≡ Open q → from s k ≤ q → mark_of s' v ≡ Done
becomes_done g s k s' c v q is le =
    let on = c.kept.marks.on_path v q is in
    subst (λ u. mark_of s' u ≡ Done) on.1 (in_part g s k s' c q le on.0)

-- a place of the part whose node this is
abbrev pub InPart : State → ℕ → ℕ → Type 0
InPart s k v = (p : ℕ) × (from s k ≤ p) × (p < length s.path) × (node_at s p ≡ v)

pub was_done : (g : List (List ℕ)) (s : State) (k : ℕ) (s' : State) → IsClosing g s k s' → (v : ℕ) → mark_of s' v ≡ Done → (mark_of s v ≡ Done) ⊎ InPart s k v
was_done g s k s' c v is = by_mark (mark_of s v) refl
  where
    by_place : (p : ℕ) → mark_of s v ≡ Open p → (p < from s k) ⊎ (from s k ≤ p) → (mark_of s v ≡ Done) ⊎ InPart s k v
    by_place p opened (inl before) = let e : Open p ≡ Done = sym (stays_open g s k s' c v p opened before) ∙ is in absurd cc
    by_place p opened (inr behind) = let on = c.kept.marks.on_path v p opened in inr (p, behind, on.0, on.1)

    by_mark : (m : Mark) → mark_of s v ≡ m → (mark_of s v ≡ Done) ⊎ InPart s k v
    by_mark Unseen was = let e : Unseen ≡ Done = sym (stays_unseen g s k s' c v was) ∙ is in absurd cc
    by_mark (Open p) was = by_place p was (cases_lt p (from s k))
    by_mark Done was = inl was

-- nodes of the path at two places differ
pub same_places : (g : List (List ℕ)) (s : State) → IsSearch g s → (p q : ℕ) → p < length s.path → q < length s.path → node_at s p ≡ node_at s q → p ≡ q
same_places g s kept p q one two same =
    let marks : Open p ≡ Open q = sym (kept.marks.open_at p one).1 ∙ ap (mark_of s) same ∙ (kept.marks.open_at q two).1 in
    cc

-- the part

pub within : (g : List (List ℕ)) (s : State) (k : ℕ) (s' : State) → IsClosing g s k s' → (p : ℕ) → from s k ≤ p → p < length s.path → IsWithin s k p
within g s k s' c p le lt = record { frame = omega (arith, c.last); from = le; on_path = lt; before = λ more. absurd (omega (arith, c.last)) }

-- each target of a node of the part is done, or in the part
pub targets_settled : (g : List (List ℕ)) (s : State) (k : ℕ) (s' : State) → IsClosing g s k s' → (p t : ℕ) → from s k ≤ p → p < length s.path → Leads g (node_at s p) t → IsSettled s (from s k) t
targets_settled g s k s' c p t le lt leads =
    let at = index_of g (node_at s p) t leads in
    by_turn at.0 at.1 at.2 ((c.kept.tried k p (within g s k s' c p le lt)).targets at.0 at.1)
  where
    by_turn : (e : ℕ) → e < length (targets_of g (node_at s p)) → get_or (targets_of g (node_at s p)) e 0 ≡ t → IsSettled s (frame_at s k).lowest (get_or (targets_of g (node_at s p)) e 0) ⊎ ((p ≡ (frame_at s k).place) × ((frame_at s k).next ≤ e)) → IsSettled s (from s k) t
    by_turn e in_range is (inl settled) = subst (λ low. IsSettled s low t) c.lowest (subst (λ v. IsSettled s (frame_at s k).lowest v) is settled)
    by_turn e in_range is (inr left) =
        let node : node_at s p ≡ (frame_at s k).node = ap (node_at s) left.0 ∙ (last_frame g s k s' c).node in
        let few : e < length (targets_of g (frame_at s k).node) = rw node at in_range in
        absurd (omega (arith, c.tried, left.1))

from_first : (g : List (List ℕ)) (s : State) (k : ℕ) (s' : State) → IsClosing g s k s' → (p : ℕ) → from s k ≤ p → p < length s.path → Reaches g (node_at s (from s k)) (node_at s p)
from_first g s k s' c p le lt = rw (last_frame g s k s' c).node ((last_frame g s k s' c).on p le lt)

to_first : (g : List (List ℕ)) (s : State) (k : ℕ) (s' : State) → IsClosing g s k s' → (n p : ℕ) → p < n → from s k ≤ p → p < length s.path → Reaches g (node_at s p) (node_at s (from s k))
to_first g s k s' c zero p few le lt = absurd (omega arith)
to_first g s k s' c (suc n) p few le lt = by_place (c.kept.tried k p (within g s k s' c p le lt)).climbs (to_first g s k s' c n)
  where
    by_place : (p ≡ (frame_at s k).place) ⊎ ((r : ℕ) × ((frame_at s k).lowest ≤ r) × (r < p) × Reaches g (node_at s p) (node_at s r)) → ((r : ℕ) → r < n → from s k ≤ r → r < length s.path → Reaches g (node_at s r) (node_at s (from s k))) → Reaches g (node_at s p) (node_at s (from s k))
    by_place (inl own) earlier = rw own (reaches_itself g _)
    by_place (inr back) earlier =
        let r = back.0 in
        reaches_then g _ _ _ back.3 (earlier r (omega (arith, back.2)) (omega (arith, back.1, c.lowest)) (omega (arith, back.2)))

pub part_reaches : (g : List (List ℕ)) (s : State) (k : ℕ) (s' : State) → IsClosing g s k s' → (p q : ℕ) → from s k ≤ p → p < length s.path → from s k ≤ q → q < length s.path → Reaches g (node_at s p) (node_at s q)
part_reaches g s k s' c p q one on two on' =
    reaches_then g _ _ _ (to_first g s k s' c (suc p) p (omega arith) one on) (from_first g s k s' c q two on')

-- nothing that is done leads to what isn't
done_along : (g : List (List ℕ)) (s : State) → DoneIsRight g s → (j v t : ℕ) → mark_of s v ≡ Done → Way g j v t → mark_of s t ≡ Done
done_along g s right zero v t is way = subst (λ u. mark_of s u ≡ Done) way is
done_along g s right (suc j) v t is way = done_along g s right j way.0 t (right.closed v way.0 is way.1) way.2

pub around_is_cycle : (g : List (List ℕ)) (s : State) (k : ℕ) (s' : State) → IsClosing g s k s' → (p : ℕ) → from s k ≤ p → p < length s.path → IsAround g (drop (from s k) s.path) (node_at s p) ↔ OnCycle g (node_at s p)
around_is_cycle g s k s' c p le lt = (to_cycle, λ cycle. by_length cycle (cases_lt 1 (length (drop (from s k) s.path))))
  where
    to_cycle : IsAround g (drop (from s k) s.path) (node_at s p) → OnCycle g (node_at s p)
    to_cycle (inr leads) = cycle_through g _ _ leads (reaches_itself g _)
    to_cycle (inl more) = by_place (cases_eq p (from s k))
      where
        another : (q : ℕ) → q ≢ p → from s k ≤ q → q < length s.path → OnCycle g (node_at s p)
        another q apart low on = there_and_back g (node_at s p) (node_at s q) (λ same. apart (sym (same_places g s c.kept p q lt on same))) (part_reaches g s k s' c p q le lt low on) (part_reaches g s k s' c q p low on le lt)

        by_place : (p ≡ from s k) ⊎ (p ≢ from s k) → OnCycle g (node_at s p)
        by_place (inl first) = another (p + 1) (omega arith) (omega arith) (omega (arith, length-drop (from s k) s.path))
        by_place (inr later) = another (from s k) (λ same. later (sym same)) (omega arith) (omega arith)

    alone : (u : ℕ) → length (drop (from s k) s.path) ≤ 1 → Leads g (node_at s p) u → Reaches g u (node_at s p) → IsSettled s (from s k) u → IsAround g (drop (from s k) s.path) (node_at s p)
    alone u few leads back (inl done) =
        let mark : Done ≡ Open p = sym (done_along g s c.kept.done back.0 u (node_at s p) done back.1) ∙ (c.kept.marks.open_at p lt).1 in
        absurd cc
    alone u few leads back (inr at) =
        let on = c.kept.marks.on_path u at.0 at.2 in
        let same : p ≡ at.0 = omega (arith, length-drop (from s k) s.path, on.0, at.1) in
        let itself : u ≡ node_at s p = sym on.1 ∙ ap (node_at s) (sym same) in
        inr (subst (λ v. Leads g (node_at s p) v) itself leads)

    by_length : OnCycle g (node_at s p) → (1 < length (drop (from s k) s.path)) ⊎ (length (drop (from s k) s.path) ≤ 1) → IsAround g (drop (from s k) s.path) (node_at s p)
    by_length cycle (inl more) = inl more
    by_length cycle (inr few) =
        let u = cycle.1.0 in
        alone u few cycle.1.1 (cycle.0, cycle.1.2) (targets_settled g s k s' c p u le lt cycle.1.1)
