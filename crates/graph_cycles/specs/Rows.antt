-- A graph kept as one list of targets, node after node, and where each node's targets end.
use Rattle.std.specs.Prelude.{◌≡◌, ℕ, ◌≤◌, List, [], ◌∷◌, slice_range}

-- the targets of each node, where the first node's targets start here
abbrev pub rows : ℕ → List ℕ → List ℕ → List (List ℕ)
rows start [] targets = []
rows start (end ∷ ends) targets = slice_range targets start end ∷ rows end ends targets

-- No node's targets end before they start, and the last node's end where all end.
abbrev pub EndAt : ℕ → List ℕ → ℕ → Type 0
EndAt start [] total = start ≡ total
EndAt start (end ∷ ends) total = (start ≤ end) × EndAt end ends total
