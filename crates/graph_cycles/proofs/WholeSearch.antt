-- A search that has met each node: what it found.
use Rattle.std.proofs.Common.{◌≡◌, ◌≢◌, ℕ, ◌<◌, List, length, refl, ◌∙◌, arith}
use Rattle.std.proofs.lemmas.List.{get_or_default}
use Rattle.graph_cycles.specs.declared.search.Mark.{Mark}
use Rattle.graph_cycles.specs.declared.search.Mark.TheVariants.{Unseen, Open, Done}
use Rattle.graph_cycles.specs.Cycles.{HasEachOnce, TargetsFirst, TellsCycles}
use Rattle.graph_cycles.specs.Kept.{IsSearch}
use Rattle.graph_cycles.specs.Searching.{State, mark_of}

-- where no node is on the path, a node that was met is done
all_done : (g : List (List ℕ)) (s : State) → IsSearch g s → length s.frames ≡ 0 → (v : ℕ) → mark_of s v ≢ Unseen → mark_of s v ≡ Done
all_done g s kept none v met = by_mark (mark_of s v) refl
  where
    by_mark : (m : Mark) → mark_of s v ≡ m → mark_of s v ≡ Done
    by_mark Unseen is = absurd (met is)
    by_mark (Open p) is = absurd (omega (arith, (kept.marks.on_path v p is).0, kept.frames.none none))
    by_mark Done is = is

-- a search that has met each node, and is between two walks
pub record IsOver (g : List (List ℕ)) (s : State) : Type 0 where
  pub kept : IsSearch g s
  pub between : length s.frames ≡ 0
  pub met : (v : ℕ) → v < length g → mark_of s v ≢ Unseen

pub found_cycles : (g : List (List ℕ)) (s : State) → IsOver g s → TellsCycles g s.cyclic
found_cycles g s over = record {
  for_each = over.kept.done.size;
  right = λ v lt. over.kept.done.right v (all_done g s over.kept over.between v (over.met v lt));
}

pub found_order : (g : List (List ℕ)) (s : State) → IsOver g s → HasEachOnce (length g) s.order
found_order g s over = record {
  below = λ i within. (over.kept.marks.done_at i within).0;
  each = λ v lt.
      let at = over.kept.marks.in_order v (all_done g s over.kept over.between v (over.met v lt)) in
      (at.0, at.1, get_or_default s.order at.0 v 0 at.1 ∙ at.2);
  once = over.kept.marks.once;
}

pub found_first : (g : List (List ℕ)) (s : State) → IsOver g s → TargetsFirst g s.order
found_first g s over = over.kept.done.first
