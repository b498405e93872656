-- How many steps are left after each step.
use Rattle.std.proofs.Common.{◌≡◌, ℕ, zero, suc, ◌+◌, ◌<◌, ◌≤◌, List, [], ◌∷◌, ◌++◌, length, get_or, set, take, refl, arith}
use Rattle.graph_cycles.specs.declared.search.Frame.{Frame}
use Rattle.graph_cycles.specs.declared.search.Mark.{Mark}
use Rattle.graph_cycles.specs.declared.search.Mark.TheVariants.{Unseen, Open, Done}
use Rattle.graph_cycles.specs.Graph.{targets_of}
use Rattle.graph_cycles.specs.Kept.{unmet, untried, all_untried}

-- a node is met

unmet_more : (m : Mark) (ms : List Mark) (ts : List ℕ) (g : List (List ℕ)) (a n : ℕ) → a + n ≡ unmet ms g → unmet (m ∷ ms) (ts ∷ g) ≡ unmet (m ∷ []) (ts ∷ []) + a + n
unmet_more Unseen ms ts g a n e = omega arith
unmet_more (Open p) ms ts g a n e = omega arith
unmet_more Done ms ts g a n e = omega arith

pub unmet_met : (ms : List Mark) (g : List (List ℕ)) (v p : ℕ) → length ms ≡ length g → v < length ms → get_or ms v Unseen ≡ Unseen → unmet (set ms v (Open p)) g + (length (targets_of g v) + 2) ≡ unmet ms g
unmet_met [] g v p same lt unseen = absurd (omega arith)
unmet_met (m ∷ ms) [] v p same lt unseen = absurd (omega arith)
unmet_met (m ∷ ms) (ts ∷ g) zero p same lt unseen = rw unseen (omega arith)
unmet_met (m ∷ ms) (ts ∷ g) (suc v) p same lt unseen = by_mark m (unmet_met ms g v p (omega arith) (omega arith) unseen)
  where
    by_mark : (m : Mark) → unmet (set ms v (Open p)) g + (length (targets_of g v) + 2) ≡ unmet ms g → unmet (m ∷ set ms v (Open p)) (ts ∷ g) + (length (targets_of g v) + 2) ≡ unmet (m ∷ ms) (ts ∷ g)
    by_mark Unseen later = omega arith
    by_mark (Open q) later = omega arith
    by_mark Done later = omega arith

-- nothing is forgotten

pub unmet_le : (ms ns : List Mark) (g : List (List ℕ)) → length ns ≡ length ms → ((v : ℕ) → get_or ns v Unseen ≡ Unseen → get_or ms v Unseen ≡ Unseen) → unmet ns g ≤ unmet ms g
unmet_le [] [] g same met = omega arith
unmet_le [] (n ∷ ns) g same met = absurd (omega arith)
unmet_le (m ∷ ms) [] g same met = absurd (omega arith)
unmet_le (m ∷ ms) (n ∷ ns) [] same met = omega arith
unmet_le (m ∷ ms) (n ∷ ns) (ts ∷ g) same met = by_marks m n (met 0) (unmet_le ms ns g (omega arith) (λ v. met (suc v)))
  where
    by_marks : (m n : Mark) → (n ≡ Unseen → m ≡ Unseen) → unmet ns g ≤ unmet ms g → unmet (n ∷ ns) (ts ∷ g) ≤ unmet (m ∷ ms) (ts ∷ g)
    by_marks Unseen Unseen first later = omega arith
    by_marks (Open p) Unseen first later = let e : Open p ≡ Unseen = first refl in absurd cc
    by_marks Done Unseen first later = let e : Done ≡ Unseen = first refl in absurd cc
    by_marks Unseen (Open q) first later = omega arith
    by_marks (Open p) (Open q) first later = omega arith
    by_marks Done (Open q) first later = omega arith
    by_marks Unseen Done first later = omega arith
    by_marks (Open p) Done first later = omega arith
    by_marks Done Done first later = omega arith

-- the frames

pub untried_set : (g : List (List ℕ)) (fs : List Frame) (i : ℕ) (f d : Frame) → i < length fs → all_untried g (set fs i f) + untried g (get_or fs i d) ≡ all_untried g fs + untried g f
untried_set g [] i f d lt = absurd (omega arith)
untried_set g (x ∷ fs) zero f d lt = omega arith
untried_set g (x ∷ fs) (suc i) f d lt = let later = untried_set g fs i f d (omega arith) in omega arith

pub untried_take : (g : List (List ℕ)) (fs : List Frame) (k : ℕ) (d : Frame) → length fs ≡ k + 1 → all_untried g (take k fs) + untried g (get_or fs k d) ≡ all_untried g fs
untried_take g [] k d is = absurd (omega arith)
untried_take g (x ∷ []) zero d is = omega arith
untried_take g (x ∷ y ∷ fs) zero d is = absurd (omega arith)
untried_take g (x ∷ fs) (suc k) d is = let later = untried_take g fs k d (omega arith) in omega arith

pub untried_push : (g : List (List ℕ)) (fs : List Frame) (f : Frame) → all_untried g (fs ++ f ∷ []) ≡ all_untried g fs + untried g f
untried_push g [] f = omega arith
untried_push g (x ∷ fs) f = let later = untried_push g fs f in omega arith
