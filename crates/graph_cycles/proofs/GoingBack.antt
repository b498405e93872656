-- All targets of the last frame were tried and it goes: the search goes on, with fewer steps left.
use Rattle.std.proofs.Common.{◌≡◌, ◌≢◌, ℕ, zero, suc, ◌+◌, ◌-◌, ◌<◌, ◌≤◌, ◌⊎◌, inl, inr, min, List, [], ◌∷◌, length, set, take, refl, sym, ap, subst, ◌∙◌, arith}
use Rattle.std.proofs.lemmas.List.{length-set}
use Rattle.std.proofs.lemmas.Bool.{cases_lt}
use Rattle.graph_cycles.specs.declared.search.Frame.{Frame}
use Rattle.graph_cycles.specs.declared.search.Mark.{Mark}
use Rattle.graph_cycles.specs.declared.search.Mark.TheVariants.{Unseen, Open, Done}
use Rattle.graph_cycles.specs.Graph.{targets_of, Reaches}
use Rattle.graph_cycles.specs.Kept.{IsFrame, IsSearch, IsSpent, Steps, work, all_untried}
use Rattle.graph_cycles.specs.Searching.{State, mark_of, node_at, frame_at, popped, lowered_top, Closes}
use Rattle.graph_cycles.proofs.Ways.{reaches_then}
use Rattle.graph_cycles.proofs.Trying.{with_frame, Betters, better_search, other_frame, this_frame}
use Rattle.graph_cycles.proofs.Leaving.{length-popped, popped_frame, CanLeave, left_search}
use Rattle.graph_cycles.proofs.ClosedParts.{IsClosing, from, stays_done, stays_open, becomes_done}
use Rattle.graph_cycles.proofs.Closing.{closed_search}
use Rattle.graph_cycles.proofs.Work.{unmet_le, untried_set, untried_take}

-- a way leads further back, and the frame before takes it over

take-set : (fs : List Frame) (n i : ℕ) (f : Frame) → take n (set fs i f) ≡ set (take n fs) i f
take-set [] zero i f = refl
take-set [] (suc n) i f = refl
take-set (x ∷ fs) zero i f = refl
take-set (x ∷ fs) (suc n) zero f = refl
take-set (x ∷ fs) (suc n) (suc i) f = ap (λ rest. x ∷ rest) (take-set fs n i f)

abbrev lower : Frame → ℕ → Frame
lower f low = record { node = f.node; place = f.place; next = f.next; lowest = min f.lowest low }

abbrev pub with_frames : State → List Frame → State
with_frames s fs = record { marks = s.marks; path = s.path; frames = fs; order = s.order; cyclic = s.cyclic }

last_frame : (g : List (List ℕ)) (s : State) (f : Frame) → IsSpent g s f → IsFrame g s f
last_frame g s f spent = subst (λ x. IsFrame g s x) spent.top.last (spent.kept.frames.each (length s.frames - 1) (omega (arith, spent.top.some)))

-- there is a frame before, since the first frame's node is the first of the path
two_frames : (g : List (List ℕ)) (s : State) (f : Frame) → IsSpent g s f → f.lowest ≢ f.place → 2 ≤ length s.frames
two_frames g s f spent apart = by_length (cases_lt 1 (length s.frames))
  where
    by_length : (1 < length s.frames) ⊎ (length s.frames ≤ 1) → 2 ≤ length s.frames
    by_length (inl more) = more
    by_length (inr few) =
        let only : length s.frames - 1 ≡ 0 = omega arith in
        let place : f.place ≡ 0 = ap (λ (x : Frame). x.place) (sym spent.top.last) ∙ ap (λ i. (frame_at s i).place) only ∙ spent.kept.frames.first spent.top.some in
        let low = (last_frame g s f spent).lowest in
        absurd (apart (omega arith))

pub goes_back : (g : List (List ℕ)) (s : State) (f : Frame) → IsSpent g s f → f.lowest ≢ f.place → Steps g s (lowered_top (popped s) f.lowest)
goes_back g s f spent apart = record {
  on = record { kept = subst (λ x. IsSearch g x) same (left_search g (with_frame s k parent) k lowered_kept can); met = λ v unseen. unseen };
  less = subst (λ x. work g x < work g s) same less;
}
  where
    k : ℕ
    k = length s.frames - 2

    two : 2 ≤ length s.frames
    two = two_frames g s f spent apart

    parent : Frame
    parent = lower (frame_at s k) f.lowest

    frame : IsFrame g s f
    frame = last_frame g s f spent

    old : IsFrame g s (frame_at s k)
    old = spent.kept.frames.each k (omega (arith, two))

    last : frame_at s (k + 1) ≡ f
    last = let e : k + 1 ≡ length s.frames - 1 = omega (arith, two) in ap (frame_at s) e ∙ spent.top.last

    by_place : (f.lowest < (frame_at s k).lowest) ⊎ ((frame_at s k).lowest ≤ f.lowest) → Reaches g (frame_at s k).node (node_at s (min (frame_at s k).lowest f.lowest))
    by_place (inl further) =
        let least : min (frame_at s k).lowest f.lowest ≡ f.lowest = omega arith in
        let rising = spent.kept.frames.rising k (k + 1) (omega (arith, two)) (omega (arith, two)) in
        let place : (frame_at s (k + 1)).place ≡ f.place = ap (λ (x : Frame). x.place) last in
        let there : Reaches g (frame_at s k).node f.node = subst (λ v. Reaches g (frame_at s k).node v) frame.node (old.on f.place (omega (arith, two)) frame.on_path) in
        rw least (reaches_then g _ f.node _ there frame.back)
    by_place (inr nearer) =
        let least : min (frame_at s k).lowest f.lowest ≡ (frame_at s k).lowest = omega arith in
        rw least old.back

    betters : Betters g s (frame_at s k) parent
    betters = record { place = refl; node = refl; lowest = omega arith; back = by_place (cases_lt f.lowest (frame_at s k).lowest); tried = λ e in_range from before. absurd (omega (arith, two)) }

    lowered_kept : IsSearch g (with_frame s k parent)
    lowered_kept = better_search g s k parent spent.kept (omega (arith, two)) betters

    still_last : frame_at (with_frame s k parent) (k + 1) ≡ f
    still_last = other_frame s k (k + 1) parent (λ e. omega arith) ∙ last

    can : CanLeave g (with_frame s k parent) k
    can = record {
      last = omega (arith, two, length-set s.frames k parent);
      tried = subst (λ x. length (targets_of g x.node) ≤ x.next) (sym still_last) spent.tried;
      lowest = let low : parent.lowest ≤ f.lowest = omega arith in rw (this_frame s k parent (omega (arith, two)), still_last) low;
      back = let low = frame.lowest in let apart_low : f.lowest ≢ f.place = apart in subst (λ x. x.lowest < x.place) (sym still_last) (omega (arith, two));
    }

    one : length (popped s).frames - 1 ≡ k
    one = omega (arith, two, length-popped s)

    front : set (popped s).frames (length (popped s).frames - 1) (lower (frame_at (popped s) (length (popped s).frames - 1)) f.lowest) ≡ set (popped s).frames k parent
    front = ap (λ i. set (popped s).frames i (lower (frame_at (popped s) i) f.lowest)) one ∙ ap (λ x. set (popped s).frames k (lower x f.lowest)) (popped_frame s k (omega (arith, two)))

    same_frames : (popped (with_frame s k parent)).frames ≡ (lowered_top (popped s) f.lowest).frames
    same_frames = ap (λ n. take (n - 1) (set s.frames k parent)) (length-set s.frames k parent) ∙ take-set s.frames (length s.frames - 1) k parent ∙ sym front

    same : popped (with_frame s k parent) ≡ lowered_top (popped s) f.lowest
    same = ap (with_frames s) same_frames

    less : work g (popped (with_frame s k parent)) < work g s
    less =
        let here = untried_set g s.frames k parent (record { node = 0; place = 0; next = 0; lowest = 0 }) (omega (arith, two)) in
        let taken = untried_take g (set s.frames k parent) (length (set s.frames k parent) - 1) f (omega (arith, two, length-set s.frames k parent)) in
        omega arith

-- no way leads further back, and the path from the node on is closed

pub closes_part : (g : List (List ℕ)) (s : State) (f : Frame) (s' : State) → IsSpent g s f → f.lowest ≡ f.place → Closes g f.place (popped s) s' → Steps g s s'
closes_part g s f s' spent lowest closes = record { on = record { kept = closed_search g s k s' c; met = λ v unseen. by_mark v unseen (mark_of s v) refl }; less = less }
  where
    k : ℕ
    k = length s.frames - 1

    c : IsClosing g s k s'
    c = record {
      kept = spent.kept;
      last = omega (arith, spent.top.some);
      tried = subst (λ x. length (targets_of g x.node) ≤ x.next) (sym spent.top.last) spent.tried;
      lowest = subst (λ (x : Frame). x.lowest ≡ x.place) (sym spent.top.last) lowest;
      closes = subst (λ x. Closes g x.place (popped s) s') (sym spent.top.last) closes;
    }

    by_place : (v p : ℕ) → mark_of s' v ≡ Unseen → mark_of s v ≡ Open p → (p < from s k) ⊎ (from s k ≤ p) → mark_of s v ≡ Unseen
    by_place v p unseen was (inl before) = let e : Open p ≡ Unseen = sym (stays_open g s k s' c v p was before) ∙ unseen in absurd cc
    by_place v p unseen was (inr behind) = let e : Done ≡ Unseen = sym (becomes_done g s k s' c v p was behind) ∙ unseen in absurd cc

    by_mark : (v : ℕ) → mark_of s' v ≡ Unseen → (m : Mark) → mark_of s v ≡ m → mark_of s v ≡ Unseen
    by_mark v unseen Unseen was = was
    by_mark v unseen (Open p) was = by_place v p unseen was (cases_lt p (from s k))
    by_mark v unseen Done was = let e : Done ≡ Unseen = sym (stays_done g s k s' c v was) ∙ unseen in absurd cc

    less : work g s' < work g s
    less =
        let marks = unmet_le s.marks s'.marks g closes.marks.size (λ v unseen. by_mark v unseen (mark_of s v) refl) in
        let taken = untried_take g s.frames k f (omega (arith, spent.top.some)) in
        let frames : all_untried g s'.frames ≡ all_untried g (take k s.frames) = ap (all_untried g) closes.frames in
        omega arith
