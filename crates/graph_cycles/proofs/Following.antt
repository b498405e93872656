-- The next target of the last frame is tried: the search goes on, with fewer steps left.
use Rattle.std.proofs.Common.{◌≡◌, ◌≢◌, ℕ, ◌+◌, ◌-◌, ◌<◌, ◌≤◌, ◌⊎◌, inl, inr, min, List, [], ◌∷◌, ◌++◌, length, get_or, set, refl, sym, ap, subst, ◌∙◌, arith}
use Rattle.std.proofs.lemmas.List.{set-append_left, length_push}
use Rattle.std.proofs.lemmas.Bool.{cases_eq, cases_lt}
use Rattle.graph_cycles.specs.declared.search.Frame.{Frame}
use Rattle.graph_cycles.specs.declared.search.Mark.{Mark}
use Rattle.graph_cycles.specs.declared.search.Mark.TheVariants.{Unseen, Open, Done}
use Rattle.graph_cycles.specs.Graph.{targets_of, Leads, Reaches, IsClosed}
use Rattle.graph_cycles.specs.Kept.{IsFrame, IsSettled, IsSearch, IsTop, Steps, work, untried, all_untried}
use Rattle.graph_cycles.specs.Searching.{State, mark_of, node_at, frame_at, after, lowered, replaced, entered, opened, followed, entered_if}
use Rattle.graph_cycles.proofs.Ways.{leads_at, leads_then, reaches_itself, reaches_then}
use Rattle.graph_cycles.proofs.Entering.{IsNext, entered_search, entered_met, new_mark, same_node, same_frame}
use Rattle.graph_cycles.proofs.Trying.{with_frame, Betters, better_search}
use Rattle.graph_cycles.proofs.Work.{unmet_met, untried_set, untried_push}

-- f is the last frame, and t its next target
pub record IsNextTarget (g : List (List ℕ)) (s : State) (f : Frame) (t : ℕ) : Type 0 where
  pub kept : IsSearch g s
  pub top : IsTop s f
  pub in_range : f.next < length (targets_of g f.node)
  pub target : get_or (targets_of g f.node) f.next 0 ≡ t
  pub node : t < length g

-- a target that was looked up
pub next_target : (g : List (List ℕ)) (s : State) (f : Frame) (xs : List ℕ) (t : ℕ) → IsClosed g → IsSearch g s → IsTop s f → xs ≡ targets_of g f.node → f.next < length xs → t ≡ get_or xs f.next 0 → IsNextTarget g s f t
next_target g s f xs t closed kept top is in_range target =
    let fits : f.next < length (targets_of g f.node) = subst (λ ys. f.next < length ys) is in_range in
    let same : get_or (targets_of g f.node) f.next 0 ≡ t = sym (ap (λ ys. get_or ys f.next 0) is) ∙ sym target in
    record { kept = kept; top = top; in_range = fits; target = same; node = closed.targets f.node t (subst (λ v. Leads g f.node v) same (leads_at g f.node f.next fits)) }

the_frame : (g : List (List ℕ)) (s : State) (f : Frame) (t : ℕ) → IsNextTarget g s f t → IsFrame g s f
the_frame g s f t n = subst (λ x. IsFrame g s x) n.top.last (n.kept.frames.each (length s.frames - 1) (omega (arith, n.top.some)))

leads : (g : List (List ℕ)) (s : State) (f : Frame) (t : ℕ) → IsNextTarget g s f t → Leads g f.node t
leads g s f t n = subst (λ v. Leads g f.node v) n.target (leads_at g f.node f.next n.in_range)

-- a frame in which one target more was tried, which is settled
better : (g : List (List ℕ)) (s s' : State) (f : Frame) (t : ℕ) (m : Mark) → IsNextTarget g s f t → lowered f.lowest m ≤ f.lowest → Reaches g f.node (node_at s' (lowered f.lowest m)) → IsSettled s' (lowered f.lowest m) t → Betters g s' f (after f m)
better g s s' f t m n le back settled = record {
  place = refl;
  node = refl;
  lowest = le;
  back = back;
  tried = λ e in_range from before. let this : f.next ≡ e = omega arith in subst (λ i. IsSettled s' (lowered f.lowest m) (get_or (targets_of g f.node) i 0)) this (subst (λ v. IsSettled s' (lowered f.lowest m) v) (sym n.target) settled);
}

less_tried : (g : List (List ℕ)) (s : State) (f : Frame) (t : ℕ) (m : Mark) → IsNextTarget g s f t → work g (replaced s (after f m)) + 1 ≡ work g s
less_tried g s f t m n =
    let set_one : all_untried g (set s.frames (length s.frames - 1) (after f m)) + untried g f ≡ all_untried g s.frames + untried g (after f m) = subst (λ x. all_untried g (set s.frames (length s.frames - 1) (after f m)) + untried g x ≡ all_untried g s.frames + untried g (after f m)) n.top.last (untried_set g s.frames (length s.frames - 1) (after f m) _ (omega (arith, n.top.some))) in
    omega (arith, n.in_range)

replaced_on : (g : List (List ℕ)) (s : State) (f : Frame) (t : ℕ) (m : Mark) → IsNextTarget g s f t → Betters g s f (after f m) → Steps g s (replaced s (after f m))
replaced_on g s f t m n betters =
    let old : Betters g s (frame_at s (length s.frames - 1)) (after f m) = subst (λ x. Betters g s x (after f m)) (sym n.top.last) betters in
    record {
      on = record { kept = better_search g s (length s.frames - 1) (after f m) n.kept (omega (arith, n.top.some)) old; met = λ v unseen. unseen };
      less = omega (arith, less_tried g s f t m n);
    }

-- a target that is in the order

done_follows : (g : List (List ℕ)) (s : State) (f : Frame) (t : ℕ) → IsNextTarget g s f t → mark_of s t ≡ Done → Steps g s (replaced s (after f Done))
done_follows g s f t n is = replaced_on g s f t Done n (better g s s f t Done n (omega arith) (the_frame g s f t n).back (inl is))

-- a target that is on the path

open_follows : (g : List (List ℕ)) (s : State) (f : Frame) (t p : ℕ) → IsNextTarget g s f t → mark_of s t ≡ Open p → Steps g s (replaced s (after f (Open p)))
open_follows g s f t p n is = replaced_on g s f t (Open p) n (better g s s f t (Open p) n (omega arith) (by_place (cases_lt p f.lowest)) (inr (p, omega arith, is)))
  where
    by_place : (p < f.lowest) ⊎ (f.lowest ≤ p) → Reaches g f.node (node_at s (min f.lowest p))
    by_place (inl lower) =
        let least : min f.lowest p ≡ p = omega arith in
        let on = n.kept.marks.on_path t p is in
        rw (least, on.1) (leads_then g f.node t t (leads g s f t n) (reaches_itself g t))
    by_place (inr higher) =
        let least : min f.lowest p ≡ f.lowest = omega arith in
        rw least (the_frame g s f t n).back

-- a target that is met now

is_next : (g : List (List ℕ)) (s : State) (f : Frame) (t : ℕ) → IsNextTarget g s f t → IsNext g s t
is_next g s f t n i lt =
    let frame = n.kept.frames.each i lt in
    let last = the_frame g s f t n in
    let reaches : Reaches g (frame_at s i).node f.node = subst (λ v. Reaches g (frame_at s i).node v) last.node (frame.on f.place (by_frame (cases_eq i (length s.frames - 1))) last.on_path) in
    reaches_then g _ f.node t reaches (leads_then g f.node t t (leads g s f t n) (reaches_itself g t))
  where
    by_frame : (i ≡ length s.frames - 1) ⊎ (i ≢ length s.frames - 1) → (frame_at s i).place ≤ f.place
    by_frame (inl same) = let place : (frame_at s i).place ≡ f.place = ap (λ j. (frame_at s j).place) same ∙ ap (λ (x : Frame). x.place) n.top.last in omega arith
    by_frame (inr apart) =
        let before = n.kept.frames.rising i (length s.frames - 1) (omega arith) (omega arith) in
        let place : (frame_at s (length s.frames - 1)).place ≡ f.place = ap (λ (x : Frame). x.place) n.top.last in
        omega arith

unseen_follows : (g : List (List ℕ)) (s : State) (f : Frame) (t : ℕ) → IsNextTarget g s f t → mark_of s t ≡ Unseen → Steps g s (entered (replaced s (after f Unseen)) t)
unseen_follows g s f t n is = record { on = record { kept = subst (λ x. IsSearch g x) same kept; met = λ v unseen. entered_met s t v is unseen }; less = less }
  where
    k : ℕ
    k = length s.frames - 1

    lt : k < length s.frames
    lt = omega (arith, n.top.some)

    same_frames : set (s.frames ++ opened s t ∷ []) k (after f Unseen) ≡ set s.frames k (after f Unseen) ++ opened s t ∷ []
    same_frames = set-append_left s.frames (opened s t ∷ []) k (after f Unseen) lt

    same : with_frame (entered s t) k (after f Unseen) ≡ entered (replaced s (after f Unseen)) t
    same = ap (λ (fs : List Frame). let new : State = record { marks = (entered s t).marks; path = (entered s t).path; frames = fs; order = s.order; cyclic = s.cyclic } in new) same_frames

    frame : IsFrame g s f
    frame = the_frame g s f t n

    back : Reaches g f.node (node_at (entered s t) f.lowest)
    back = rw (same_node s t f.lowest (omega (arith, frame.lowest, frame.on_path))) frame.back

    settled : IsSettled (entered s t) f.lowest t
    settled = inr (length s.path, omega (arith, frame.lowest, frame.on_path), new_mark s t (omega (arith, n.node, n.kept.marks.size)))

    betters : Betters g (entered s t) (frame_at (entered s t) k) (after f Unseen)
    betters = subst (λ x. Betters g (entered s t) x (after f Unseen)) (sym n.top.last ∙ sym (same_frame s t k lt)) (better g s (entered s t) f t Unseen n (omega arith) back settled)

    kept : IsSearch g (with_frame (entered s t) k (after f Unseen))
    kept = better_search g (entered s t) k (after f Unseen) (entered_search g t s n.kept n.node is (is_next g s f t n)) (omega (arith, lt, length_push s.frames (opened s t))) betters

    less : work g (entered (replaced s (after f Unseen)) t) < work g s
    less =
        let met = unmet_met s.marks g t (length s.path) n.kept.marks.size (omega (arith, n.node, n.kept.marks.size)) is in
        let added = untried_push g (set s.frames k (after f Unseen)) (opened s t) in
        let tried = less_tried g s f t Unseen n in
        omega arith

-- the step, whatever the target's mark is
pub follows : (g : List (List ℕ)) (s : State) (f : Frame) (t : ℕ) → IsNextTarget g s f t → Steps g s (followed s f t)
follows g s f t n = by_mark (mark_of s t) refl
  where
    by_mark : (m : Mark) → mark_of s t ≡ m → Steps g s (entered_if (mark_of s t) (replaced s (after f (mark_of s t))) t)
    by_mark Unseen is = rw is (unseen_follows g s f t n is)
    by_mark (Open p) is = rw is (open_follows g s f t p n is)
    by_mark Done is = rw is (done_follows g s f t n is)
